-- Document 01, "Settings and readings, V2", the column "Data": what holds of it, to lay beside the paper. Codes, Form and Sound say what the words
-- mean, Examples has worked cases, Theorems says what holds.
pub mod Codes
pub mod Form
pub mod Sound
pub mod Examples
pub mod Theorems
