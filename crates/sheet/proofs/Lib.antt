pub mod Splits
pub mod Headings
pub mod Digits
pub mod Wholes
pub mod Back
pub mod Values
pub mod Bodies
pub mod Places
