pub mod Calling
pub mod OfLawStmt
