-- Document 01, "Decimal numbers": what holds of the reader and the writers, to lay beside the paper. Grammar and Canonical say what the words
-- mean, Theorems what holds.
pub mod Grammar
pub mod Canonical
pub mod Theorems
