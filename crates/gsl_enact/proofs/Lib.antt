pub mod Entered
pub mod Stepped
