pub mod Around
pub mod Blocks
pub mod Correct
pub mod Order
pub mod Reading
pub mod Targets
