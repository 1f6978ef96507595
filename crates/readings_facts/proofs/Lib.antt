-- The proofs of specs/Theorems, and what they rest on.
pub mod Accepts
pub mod Kept
pub mod Places
pub mod Widths
pub mod HalfUp
pub mod Examples
pub mod Lemmas
