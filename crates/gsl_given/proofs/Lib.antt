pub mod Placing
pub mod Found
pub mod Lines
pub mod Reached
