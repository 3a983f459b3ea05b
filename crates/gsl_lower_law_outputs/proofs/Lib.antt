pub mod Quiet
pub mod Walking
pub mod Outputs
pub mod Ordered
pub mod Front
pub mod Outs
pub mod Functions
pub mod OfLawInputs
