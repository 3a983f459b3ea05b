pub mod Sizes
pub mod Stretching
pub mod Reached
pub mod Frames
pub mod Following
pub mod Giving
pub mod OfLawPlaces
