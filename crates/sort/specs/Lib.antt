pub mod Searched
pub mod Numbers
pub mod Promises
