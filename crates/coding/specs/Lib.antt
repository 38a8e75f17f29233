pub mod Refusals
pub mod Lengths
pub mod Walks
pub mod Weights
pub mod Outcomes
pub mod Makings
