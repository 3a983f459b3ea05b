pub mod Outermost
pub mod Fed
