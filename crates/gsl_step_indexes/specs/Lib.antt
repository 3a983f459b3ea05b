pub mod Straying
pub mod Indexes
