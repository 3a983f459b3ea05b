pub mod Listed
pub mod Leaving
pub mod Oldest
