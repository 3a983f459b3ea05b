pub mod Drawn
pub mod Initialised
