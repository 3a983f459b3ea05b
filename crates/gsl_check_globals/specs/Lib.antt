pub mod Variables
pub mod Globals
