pub mod Types
pub mod Places
pub mod Sizes
pub mod Runs
pub mod Carries
