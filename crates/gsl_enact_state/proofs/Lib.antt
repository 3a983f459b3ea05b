pub mod Rowed
pub mod Gathered
