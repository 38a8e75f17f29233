pub mod Within
pub mod SignPlanes
pub mod Widths
pub mod Halves
pub mod OneWord
pub mod Cases
