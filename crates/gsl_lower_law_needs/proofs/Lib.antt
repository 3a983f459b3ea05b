pub mod Covering
pub mod Parts
pub mod Whole
pub mod Statements
pub mod Programs
