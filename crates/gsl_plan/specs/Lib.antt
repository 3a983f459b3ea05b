pub mod Found
pub mod Plan
