pub mod Fronts
pub mod Shares
pub mod Builds
pub mod OfLaw
pub mod OfLawOperators
