pub mod Text
pub mod Asked
pub mod Promises
