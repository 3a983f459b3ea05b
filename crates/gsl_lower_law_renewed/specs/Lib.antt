pub mod Renewing
pub mod OfWrites
