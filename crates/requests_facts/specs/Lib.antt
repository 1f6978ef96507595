-- Document 01, what a frame asks: what holds of it, to lay beside the paper. Examples has the commands by their texts and worked cases, Theorems says
-- what holds.
pub mod Examples
pub mod Theorems
