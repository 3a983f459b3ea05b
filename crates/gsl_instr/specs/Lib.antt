pub mod Strings
pub mod Texts
pub mod Forms
pub mod Instructions
pub mod Fitting
pub mod Parts
