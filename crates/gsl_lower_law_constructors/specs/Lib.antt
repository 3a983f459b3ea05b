pub mod Supply
pub mod OfMachine
pub mod OfLaw
