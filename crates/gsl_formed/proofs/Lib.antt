pub mod Folds
pub mod Layers
pub mod Arms
pub mod StatementArms
mod Example
