pub mod Assigning
pub mod Updating
pub mod OfElements
pub mod OfIndexes
pub mod OfReads
