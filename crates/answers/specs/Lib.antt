pub mod Verdict
pub mod Demands
pub mod Marked
