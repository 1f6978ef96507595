-- Document 01: "When an answer is an enum, a definition sets out this paper's number and values for each of its cases. The promises use that
-- definition": the numbers of answers, in the paper's order. Theorems says that they hold for every input.
pub mod Rows
pub mod Frames
pub mod Asked
pub mod Words
pub mod ReadV2
pub mod ReadV1
pub mod ReadOpg
pub mod Theorems
