-- The proofs of specs/Theorems, and what they rest on.
pub mod Rows
pub mod Frames
pub mod Asked
pub mod Words
pub mod ReadV2
pub mod ReadV1
pub mod ReadOpg
