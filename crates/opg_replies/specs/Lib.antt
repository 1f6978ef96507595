-- Document 01, "The master's side": the OPG reply reader.
pub mod Reply
