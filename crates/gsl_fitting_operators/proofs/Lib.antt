pub mod Forms
pub mod Composites
pub mod Operators
pub mod Pairs
