pub mod Layers
pub mod Format
pub mod Faults
pub mod Reading
pub mod Opened
pub mod Writes
