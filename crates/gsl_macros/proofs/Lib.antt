pub mod Sets
pub mod Fuel
pub mod Drawn
pub mod Reversed
