pub mod Roots
pub mod Puts
pub mod Drawn
