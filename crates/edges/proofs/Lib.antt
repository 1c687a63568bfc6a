pub mod EdgeTables
pub mod Determined
