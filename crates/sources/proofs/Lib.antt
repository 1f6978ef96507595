pub mod Laws
pub mod Weights
pub mod Names
pub mod Known
pub mod Profiles
pub mod Reading
pub mod Open
