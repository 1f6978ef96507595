pub mod Laws
pub mod Fronts
pub mod Sizes
pub mod Open
