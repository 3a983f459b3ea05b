pub mod Yielding
pub mod Steps
pub mod Operands
pub mod Constants
