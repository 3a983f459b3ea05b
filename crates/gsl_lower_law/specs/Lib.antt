pub mod Stretches
pub mod Values
pub mod Computing
pub mod Operands
pub mod Straying
pub mod OfMachine
pub mod OfSpv
pub mod OfValid
