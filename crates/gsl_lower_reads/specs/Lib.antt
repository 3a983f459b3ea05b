pub mod Accessing
pub mod Waiting
pub mod Testing
pub mod OfElements
pub mod OfReaching
