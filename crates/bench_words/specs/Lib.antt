-- A bench setting in words. Examples has worked cases, Theorems says what holds of them.
pub mod Words
pub mod Examples
pub mod Theorems
