pub mod Outputs
pub mod OfLawInputs
