pub mod Pairs
pub mod Along
