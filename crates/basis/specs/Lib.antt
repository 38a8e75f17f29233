pub mod Form
pub mod Inserted
pub mod Words
pub mod Stands
pub mod Answers
pub mod Agree
pub mod Calls
pub mod Runs
