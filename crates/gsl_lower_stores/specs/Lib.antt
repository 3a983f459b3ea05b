pub mod Making
pub mod OfReads
pub mod OfWrites
