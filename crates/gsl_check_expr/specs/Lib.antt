pub mod InOrder
pub mod Named
pub mod Sizes
pub mod Callees
pub mod Expressions
pub mod Written
pub mod Initialisers
