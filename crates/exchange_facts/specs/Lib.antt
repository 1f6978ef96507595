-- A request that is written, answered by the gauge and read by the master. Exchange says what is to be read, Theorems that it is.
pub mod Exchange
pub mod Theorems
