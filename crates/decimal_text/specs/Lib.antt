-- Document 01, "Decimal numbers": the texts that are sent.
pub mod Written
