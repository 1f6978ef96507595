-- The proofs of specs/Theorems, and what they rest on.
pub mod ReadBack
pub mod Accepted
pub mod Lengths
pub mod Finite
pub mod Answered
pub mod Examples
