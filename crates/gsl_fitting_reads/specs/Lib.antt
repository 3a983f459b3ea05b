pub mod Waiting
pub mod Moving
