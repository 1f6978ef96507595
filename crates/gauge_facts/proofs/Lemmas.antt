-- What the theorems rest on.
pub mod Rows
pub mod Entered
pub mod Asking
pub mod Carried
pub mod AskingV1
