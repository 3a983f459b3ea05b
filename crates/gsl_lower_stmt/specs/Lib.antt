pub mod Parts
pub mod Lowering
pub mod Coming
