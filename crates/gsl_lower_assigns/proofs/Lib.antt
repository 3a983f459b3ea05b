pub mod Assigned
pub mod Finishing
pub mod Stepping
pub mod Updating
pub mod OfElements
pub mod OfIndexes
pub mod OfReads
