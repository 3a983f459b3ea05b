pub mod Copying
pub mod Comparing
