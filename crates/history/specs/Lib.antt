-- Histories of calls: what holds of each call, and what the last call said.
pub mod Latest
