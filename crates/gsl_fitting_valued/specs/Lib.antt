pub mod OfFittingReads
pub mod OfFittingKnown
pub mod OfFittingPassed
