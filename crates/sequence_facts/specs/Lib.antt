-- Any sequence of calls of the text gauge (document 01, "What the promises have to say"). Model is the paper's book, Sequence the calls and the
-- one claim about them, with Writes for what a request's bytes write and Shown for what a line shows; Witness has calls that reach the longest
-- line. Theorems says what holds.
pub mod Model
pub mod Writes
pub mod Shown
pub mod Sequence
pub mod Witness
pub mod Theorems
