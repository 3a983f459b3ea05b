pub mod Modules
pub mod Entering
pub mod OfLawStmt
pub mod OfLawReturns
