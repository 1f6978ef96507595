-- Serving a stream of bytes: Cut and Stream have the words, Calls calls of `service::serve`; Theorems says what holds.
pub mod Cut
pub mod Stream
pub mod Calls
pub mod Theorems
