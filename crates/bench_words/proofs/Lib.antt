-- Laws of bench settings in words.
pub mod Laws
pub mod Examples
pub mod Open
