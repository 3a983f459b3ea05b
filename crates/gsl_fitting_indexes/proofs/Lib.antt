pub mod Testing
pub mod Stepping
pub mod Indexing
