pub mod Following
pub mod Holding
pub mod Owing
pub mod Branching
pub mod Meeting
pub mod Short
pub mod Choice
pub mod Taking
