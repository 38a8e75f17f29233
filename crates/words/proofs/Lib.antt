pub mod Operations
pub mod Masks
pub mod Lowest
pub mod Spelled
