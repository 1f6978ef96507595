-- Document 01, "Answer numbers of the text gauge": what holds of the table and of a call, to lay beside the paper. Accepted has the eight
-- conditions of an accepted request, Request what the paper asks of its bytes, Columns two of V2's rows on the bytes alone, Sound the states
-- that calls reach, Examples worked cases and whole sequences; Theorems says what holds.
pub mod Accepted
pub mod Request
pub mod Columns
pub mod Sound
pub mod Examples
pub mod Theorems
