pub mod Passed
pub mod Begun
pub mod Entered
