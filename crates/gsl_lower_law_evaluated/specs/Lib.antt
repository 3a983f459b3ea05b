pub mod Evaluating
pub mod Beside
