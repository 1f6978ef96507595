-- Document 01, "OPG frames": pressures as f32, and their units. Theorems has the factors as numbers.
pub mod Units
pub mod Theorems
