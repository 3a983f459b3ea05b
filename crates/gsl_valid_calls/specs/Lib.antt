pub mod Heights
pub mod Limits
pub mod Stands
pub mod Depths
pub mod Ranks
pub mod Calls
pub mod Closure
