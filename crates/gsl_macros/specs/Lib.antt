pub mod Spelling
pub mod Hiding
pub mod Tables
pub mod Expanding
pub mod Steps
