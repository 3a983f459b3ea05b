pub mod Computed
pub mod OfElements
pub mod OfReads
