-- Document 01, "Text frames": what holds of reading and writing frames, to lay beside the paper. Sendable says what can be a frame, Examples has
-- worked cases, Theorems says what holds.
pub mod ReadBack
pub mod Examples
pub mod Theorems
