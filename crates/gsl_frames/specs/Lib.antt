pub mod Taken
pub mod Frames
