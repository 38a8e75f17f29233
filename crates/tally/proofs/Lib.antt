pub mod Values
pub mod RowSums
pub mod Entries
pub mod Running
