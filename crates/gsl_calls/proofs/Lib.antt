mod Example
pub mod Loops
