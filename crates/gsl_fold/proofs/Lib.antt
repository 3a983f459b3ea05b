pub mod Several
pub mod Steady
pub mod Drawn
