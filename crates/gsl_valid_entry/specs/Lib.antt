pub mod Reading
pub mod Stages
