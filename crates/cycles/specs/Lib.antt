pub mod WaitsFor
