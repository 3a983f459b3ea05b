pub mod Variables
pub mod Decorated
pub mod Seen
pub mod Guards
