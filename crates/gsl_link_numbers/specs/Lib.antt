pub mod Joining
pub mod Placing
pub mod Standing
pub mod Numbering
