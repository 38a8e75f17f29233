pub mod Matrix
pub mod Booking
pub mod Stands
pub mod Calls
pub mod Makings
