pub mod Holding
pub mod Fetching
pub mod Leaves
pub mod Reading
pub mod Storing
