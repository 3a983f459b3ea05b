pub mod Storing
pub mod Joined
