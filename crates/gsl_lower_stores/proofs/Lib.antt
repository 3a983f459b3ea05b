pub mod Staying
pub mod Stored
pub mod Ready
pub mod OfReads
pub mod OfWrites
