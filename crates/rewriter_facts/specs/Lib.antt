-- Text requests that are read and written again.
pub mod Again
pub mod Theorems
