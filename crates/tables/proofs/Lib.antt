pub mod Adding
pub mod ReasonTables
