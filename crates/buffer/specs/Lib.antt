-- What every crate stands on: ordered tests, the answer in lent memory, short texts by value.
pub mod First
pub mod Byte
pub mod Answer
pub mod Text
pub mod Quoted
