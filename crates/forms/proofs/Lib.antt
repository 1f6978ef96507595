pub mod Open
pub mod Streams
pub mod Told
