-- Document 01, "V1 on the same settings" and "The master's side": what the text gauge answers to a V1 request is read by the master as the
-- value, or the error, that the gauge holds. HeldV1 says what that is, Theorems what holds, Examples has what the worked cases ask.
pub mod HeldV1
pub mod Examples
pub mod Theorems
