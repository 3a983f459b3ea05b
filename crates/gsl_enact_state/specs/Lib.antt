pub mod Seen
pub mod Variables
