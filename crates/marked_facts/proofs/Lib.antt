-- The proof of specs/Theorems.
pub mod Marked
