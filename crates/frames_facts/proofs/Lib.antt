-- The proofs of specs/Theorems, and what they rest on.
pub mod Shape
pub mod ReadBack
pub mod Exactly
pub mod Accepted
pub mod Examples
