pub mod Put
pub mod Entered
pub mod Needs
pub mod Alike
pub mod OfLawOutputs
