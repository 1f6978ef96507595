-- The proofs of specs/Theorems, and what they rest on.
pub mod Lemmas
pub mod Judged
pub mod Back
pub mod Again
pub mod Accepted
pub mod Examples
