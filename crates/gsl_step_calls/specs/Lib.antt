pub mod Ending
pub mod Calling
