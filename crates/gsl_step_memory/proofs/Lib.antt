pub mod Seats
pub mod Led
pub mod Copied
pub mod Loads
pub mod Stored
