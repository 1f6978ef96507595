-- Document 01, "The master's side": values in V2 replies.
pub mod Value
