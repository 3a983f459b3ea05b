pub mod Turns
pub mod Came
pub mod Entry
