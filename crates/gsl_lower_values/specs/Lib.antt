pub mod Building
pub mod Types
pub mod Operators
pub mod Constructors
pub mod Builtins
