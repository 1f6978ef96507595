-- Document 01, "OPG frames": the bytes of a frame.
pub mod Written
