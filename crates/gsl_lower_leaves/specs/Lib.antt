pub mod Leaves
pub mod Copies
pub mod Shaped
