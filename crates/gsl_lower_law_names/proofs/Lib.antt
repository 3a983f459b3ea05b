pub mod Reading
pub mod Names
pub mod Storing
pub mod Assigning
pub mod Assigned
pub mod OfLawExpr
