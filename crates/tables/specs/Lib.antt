pub mod Kept
pub mod Numbers
pub mod ReasonTables
