pub mod Assigned
pub mod Updated
