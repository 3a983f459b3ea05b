pub mod Placed
pub mod Renumbered
