pub mod Entry
pub mod Interface
pub mod Entering
pub mod Valid
mod Example
