-- Document 01, "Settings and readings, V2": the column "Data" of the commands that can be written.
pub mod Forms
pub mod Told
pub mod Judged
pub mod Inner
