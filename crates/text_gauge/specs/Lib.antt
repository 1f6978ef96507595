-- Document 01, "Answer numbers of the text gauge": what the gauge promises.
pub mod Answer
pub mod Inner
