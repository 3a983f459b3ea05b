pub mod Given
pub mod Demands
