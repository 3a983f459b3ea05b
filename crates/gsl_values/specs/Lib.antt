pub mod Word
pub mod Choices
pub mod Operators
pub mod Vectors
pub mod Functions
pub mod Laws
