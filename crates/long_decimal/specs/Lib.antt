-- Decimals as people write them.
pub mod Long
