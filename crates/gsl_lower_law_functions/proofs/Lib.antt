pub mod Valued
pub mod Ended
pub mod Done
pub mod Depths
pub mod Passing
pub mod Calling
