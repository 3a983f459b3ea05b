pub mod Arms
pub mod Labels
pub mod Switched
