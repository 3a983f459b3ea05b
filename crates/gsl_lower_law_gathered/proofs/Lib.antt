pub mod Formed
pub mod Types
pub mod Loaded
pub mod Gathered
pub mod Outside
pub mod Given
