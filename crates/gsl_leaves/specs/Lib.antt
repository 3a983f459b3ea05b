pub mod Leaves
pub mod Table
