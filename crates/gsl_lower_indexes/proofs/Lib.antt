pub mod Always
pub mod Spilling
pub mod Stages
pub mod Computing
pub mod OfElements
pub mod OfReads
