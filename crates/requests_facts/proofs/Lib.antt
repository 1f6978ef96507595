-- The proofs of specs/Theorems, and what they rest on.
pub mod Commands
pub mod Data
pub mod Examples
