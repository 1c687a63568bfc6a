pub mod History
pub mod Earlier
pub mod Source
pub mod Order
pub mod Reasons
pub mod Chapter
pub mod Faults
pub mod Sound
