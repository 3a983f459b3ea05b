pub mod Heads
pub mod Looped
pub mod Opening
pub mod Turns
pub mod Units
