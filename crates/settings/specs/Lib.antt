-- Document 01, "Settings and readings, V2": the settings, their limits and factory values, and the texts that reads send.
-- Theorems has the column "Factory" and the length of the longest line.
pub mod Limits
pub mod Settings
pub mod Sent
pub mod Tables
pub mod Theorems
pub mod Units
