pub mod ByReason
pub mod Numbers
pub mod Promises
