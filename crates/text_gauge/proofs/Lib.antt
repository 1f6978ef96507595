-- Laws of the gauge's replies, the step from a typed request to the table, and the parts of an answer put together.
pub mod Sends
pub mod Bridge
pub mod Compose
