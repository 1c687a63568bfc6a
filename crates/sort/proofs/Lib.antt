pub mod Waits
pub mod NumberSearch
pub mod SearchLoop
pub mod PlacingLoop
pub mod Determined
