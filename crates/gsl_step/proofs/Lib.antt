pub mod Operands
pub mod Giving
pub mod Passing
pub mod Leading
