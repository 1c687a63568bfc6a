pub mod Lines
pub mod Columns
pub mod Kept
pub mod Promises
