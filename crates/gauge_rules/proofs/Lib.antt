-- Laws of the rules of the text gauge.
pub mod Laws
pub mod Open
