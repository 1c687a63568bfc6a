pub mod Search
pub mod Bits
pub mod Paths
pub mod Gathered
