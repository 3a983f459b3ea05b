pub mod Versions
pub mod Instructions
pub mod Bytes
pub mod Flat
pub mod Words
pub mod Faults
