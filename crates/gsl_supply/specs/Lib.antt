pub mod Coming
pub mod Supplying
