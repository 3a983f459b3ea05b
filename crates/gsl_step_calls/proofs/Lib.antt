pub mod Apart
pub mod Ended
pub mod Valued
pub mod Called
