-- What the master reads of the text gauge's reply to a V2 request is what the gauge holds, or the error that the table gives it. HeldV2 says what
-- that is, Theorems what holds.
pub mod HeldV2
pub mod Theorems
