pub mod Rule
pub mod Lines
