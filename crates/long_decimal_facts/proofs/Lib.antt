-- The proof of specs/Theorems.
pub mod Agrees
