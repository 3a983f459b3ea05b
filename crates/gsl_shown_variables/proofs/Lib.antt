pub mod Outer
pub mod Own
