pub mod Trails
pub mod Reaching
pub mod Stepping
pub mod OfLawMembers
