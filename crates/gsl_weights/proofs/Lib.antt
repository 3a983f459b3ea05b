pub mod Sums
pub mod Steps
pub mod StmtSteps
pub mod Structs
pub mod Dimensions
pub mod Totals
