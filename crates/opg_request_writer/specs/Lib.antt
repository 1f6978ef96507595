-- Document 01, "The master's side": the OPG writer.
pub mod Written
pub mod Inner
