pub mod Parts
pub mod WalkLoop
pub mod CycleWritten
pub mod BufferParts
