pub mod Conflicted
