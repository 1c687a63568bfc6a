pub mod Decimals
pub mod Lines
mod Records
mod Fronts
pub mod Determined
