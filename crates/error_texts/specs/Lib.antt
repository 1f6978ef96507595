-- Document 01, "Answer numbers of the text gauge": the reply column.
pub mod Texts
