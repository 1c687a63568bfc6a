pub mod ByExample
pub mod Printed
pub mod Asks
pub mod Determined
