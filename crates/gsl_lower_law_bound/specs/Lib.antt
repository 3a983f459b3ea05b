pub mod Bound
pub mod OfLawInputs
pub mod OfLawOutside
