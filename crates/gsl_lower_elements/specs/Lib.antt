pub mod Indexes
pub mod OfReaching
