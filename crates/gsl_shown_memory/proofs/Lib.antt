pub mod Passed
pub mod Loaded
