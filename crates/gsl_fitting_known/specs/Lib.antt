pub mod Ids
pub mod Lying
pub mod Known
pub mod Fitted
pub mod OfFittingRows
pub mod OfFittingReads
pub mod OfFittingReaching
pub mod OfFittingPassed
