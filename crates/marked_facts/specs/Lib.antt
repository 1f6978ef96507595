-- Document 01, "Examples to be proved (marked)".
pub mod Marked
pub mod Theorems
