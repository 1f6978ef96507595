-- Document 01, "The master's side": the V2 reply reader. Examples has worked cases, Theorems says what holds of them.
pub mod ReplyV2
pub mod Examples
pub mod Theorems
