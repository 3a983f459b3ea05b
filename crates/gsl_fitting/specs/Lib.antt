pub mod Fits
pub mod Functions
