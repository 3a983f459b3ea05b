pub mod OfLawStored
pub mod OfReaching
pub mod OfReads
