pub mod OfLawInputs
pub mod OfLawOutside
