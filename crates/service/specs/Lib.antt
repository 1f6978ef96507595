-- Document 01, the program that "reads text requests up to each CR and writes replies": how bytes are split, and what is served.
pub mod Split
pub mod Served
