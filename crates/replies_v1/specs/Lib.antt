-- Document 01, "The master's side": the V1 reply reader. Examples has worked cases, Theorems says what holds of them.
pub mod ReplyV1
pub mod Inner
pub mod Examples
pub mod Theorems
