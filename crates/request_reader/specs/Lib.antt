-- Any bytes read as a typed request to a text gauge.
pub mod Decoded
