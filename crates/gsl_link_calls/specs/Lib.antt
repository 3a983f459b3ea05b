pub mod Calls
pub mod Gathering
pub mod Table
pub mod Ranks
pub mod Depths
