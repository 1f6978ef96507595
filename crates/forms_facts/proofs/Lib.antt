-- The proofs of specs/Theorems, and what they rest on.
pub mod Digit
pub mod Logic
pub mod Range
pub mod Exactly
pub mod Within
pub mod Kept
pub mod Again
pub mod Read
pub mod Examples
pub mod Lemmas
pub mod Profiles
