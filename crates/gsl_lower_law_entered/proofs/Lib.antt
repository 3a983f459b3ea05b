pub mod Lasting
pub mod Given
pub mod Framed
pub mod Opening
pub mod Begun
pub mod Called
pub mod OfLawReturns
pub mod OfLawStmt
