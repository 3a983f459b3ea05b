pub mod Loops
pub mod Told
pub mod Orders
pub mod Walked
