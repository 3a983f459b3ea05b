pub mod Picking
pub mod Building
pub mod Extending
pub mod Built
