-- Document 01, "OPG frames": the gauge's answer to any bytes.
pub mod Reply
pub mod Inner
