pub mod Answer
pub mod Rows
pub mod Record
pub mod Form
pub mod LogHistory
pub mod Refusals
pub mod Questions
pub mod Passes
