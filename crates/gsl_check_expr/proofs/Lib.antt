mod Example
pub mod Loops
pub mod Steps
