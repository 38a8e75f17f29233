pub mod Printed
pub mod Normal
pub mod Runs
pub mod Permanents
