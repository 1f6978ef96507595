-- Document 01, "Settings and readings, V2", and document 02, "No repeated sources": the sources of the stream line and their list.
pub mod Source
pub mod Entries
pub mod Inner
pub mod Theorems
pub mod Beside
