pub mod Bounds
pub mod Places
pub mod Passing
pub mod Giving
pub mod Counted
pub mod Labels
pub mod Branching
