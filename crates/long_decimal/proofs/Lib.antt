-- Laws of long decimals.
pub mod Laws
pub mod Open
