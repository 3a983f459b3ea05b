pub mod Kept
pub mod Staying
pub mod Begun
pub mod OfLawBound
pub mod OfLawInputs
