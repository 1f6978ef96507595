-- Document 01, "Settings and readings, V2" and "V1 on the same settings": what a frame asks. Tables has two of the paper's tables written out,
-- Theorems says that the definitions give them.
pub mod Command
pub mod AskV2
pub mod AskV1
pub mod Tables
pub mod Theorems
