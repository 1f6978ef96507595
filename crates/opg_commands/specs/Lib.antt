-- Document 01, "OPG frames": typed requests, settings and limits.
pub mod Limits
pub mod Request
pub mod Settings
