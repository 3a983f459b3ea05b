pub mod Falling
pub mod Switching
pub mod Targets
