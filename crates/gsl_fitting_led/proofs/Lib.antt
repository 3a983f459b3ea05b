pub mod Places
pub mod Assigns
pub mod Indexes
pub mod Passed
