pub mod Laws
pub mod Open
