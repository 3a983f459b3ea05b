pub mod Bytes
pub mod Focus
pub mod Copies
