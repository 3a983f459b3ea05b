pub mod Parts
pub mod Calls
pub mod Lowering
pub mod Coming
pub mod Rows
