pub mod Steps
pub mod Turns
pub mod Parts
pub mod Layouts
pub mod Rows
pub mod Standing
pub mod Finding
pub mod Exact
pub mod Programs
pub mod Adding
mod Example
