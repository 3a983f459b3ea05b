pub mod Steps
pub mod Rows
pub mod Opened
pub mod OfLawZeros
pub mod OfLawEntered
