pub mod Reaching
pub mod Functions
pub mod Programs
