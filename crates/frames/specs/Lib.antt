-- Document 01, "Text frames": the checksum, and any bytes read as a frame.
pub mod Checksum
pub mod Frame
