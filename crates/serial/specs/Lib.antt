pub mod Run
pub mod Serial
pub mod Explains
