pub mod Written
pub mod Serving
pub mod OfReaching
pub mod OfReads
