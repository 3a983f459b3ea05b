pub mod Labels
pub mod Arms
pub mod Switches
