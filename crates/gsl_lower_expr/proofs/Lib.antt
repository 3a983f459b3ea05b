mod Steps
pub mod Turns
mod Passing
