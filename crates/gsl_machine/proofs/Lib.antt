pub mod Over
pub mod Example
