-- Document 01, "OPG frames": the parts of a frame, and the numbers of what refuses one.
pub mod Frame
pub mod Number
