pub mod Seen
pub mod Runtimes
