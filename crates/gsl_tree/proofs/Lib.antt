pub mod Folds
pub mod StmtFolds
pub mod Steps
pub mod Nodes
pub mod Example
