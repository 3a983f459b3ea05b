pub mod Arguments
pub mod OfLawFunctions
pub mod OfLawGathered
