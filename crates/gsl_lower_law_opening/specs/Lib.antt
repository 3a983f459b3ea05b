pub mod Opening
pub mod OfLawReturns
pub mod OfLawEntered
