-- Document 01, "Answer numbers of the text gauge": the table, the replies and the state afterwards. Theorems says that decoding a request and then
-- deciding it gives the table's number, and V1's letters, which Letters writes out.
pub mod Asked
pub mod Table
pub mod Reply
pub mod After
pub mod Decided
pub mod Letters
pub mod Theorems
