-- The proofs of specs/Theorems, and what they rest on.
pub mod Accepted
pub mod Refused
pub mod Profile
pub mod Kept
pub mod Typed
pub mod Exactly
pub mod Columns
pub mod Lengths
pub mod Line
pub mod Examples
pub mod Lemmas
