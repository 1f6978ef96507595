-- Document 01, "The master's side": the text writer.
pub mod Typed
pub mod Written
pub mod Inner
