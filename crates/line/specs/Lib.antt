-- Document 01, "Settings and readings, V2": the stream line, as document 02, "No repeated sources", has changed it.
pub mod Line
pub mod Rows
pub mod Theorems
