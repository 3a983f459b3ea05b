pub mod Keeping
pub mod Runs
pub mod Done
pub mod Readings
pub mod Unique
