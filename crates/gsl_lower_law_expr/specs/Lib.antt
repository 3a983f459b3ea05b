pub mod Known
pub mod Coded
pub mod Rows
pub mod OfExpr
