pub mod Aimed
pub mod Planned
pub mod Understood
pub mod Walked
