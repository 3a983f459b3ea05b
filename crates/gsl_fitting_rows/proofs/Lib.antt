pub mod Waiting
pub mod Operands
