pub mod Text
pub mod Kept
pub mod Promises
