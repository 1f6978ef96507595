-- Document 01, "Text frames", the bytes of a frame, and the error frames of "Answer numbers of the text gauge".
pub mod Written
pub mod Start
pub mod Error
pub mod Sendable
