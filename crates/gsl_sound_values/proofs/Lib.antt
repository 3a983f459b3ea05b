pub mod Unfolded
pub mod Constants
pub mod Counted
pub mod Operated
pub mod Parts
pub mod Composed
