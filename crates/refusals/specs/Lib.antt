-- Document 01's numbers of the refusals.
pub mod Number
