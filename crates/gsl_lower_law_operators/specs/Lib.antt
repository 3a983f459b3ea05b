pub mod OfMachine
pub mod OfLaw
