pub mod Laws
pub mod Sofar
pub mod Kept
