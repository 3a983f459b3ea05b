pub mod Untouched
pub mod Returned
pub mod OfLawStmt
