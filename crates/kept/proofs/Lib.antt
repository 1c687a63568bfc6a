pub mod Keeping
pub mod TestsKept
pub mod EndKept
