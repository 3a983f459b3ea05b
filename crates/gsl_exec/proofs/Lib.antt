pub mod Verdicts
pub mod Keeping
pub mod Unique
pub mod Readings
pub mod Runs
pub mod Reached
pub mod Done
