pub mod Declared
pub mod Exits
pub mod Rows
pub mod Ways
pub mod OfLawExpr
pub mod OfFollows
