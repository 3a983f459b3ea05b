pub mod Apart
pub mod Arms
pub mod Cases
pub mod Complete
pub mod Decided
mod Example
pub mod Greatest
pub mod Instructions
pub mod Onto
pub mod Shallow
pub mod Sound
pub mod Steps
