pub mod Rows
pub mod Scene
pub mod Conversions
pub mod Fitting
pub mod Uses
pub mod Operators
