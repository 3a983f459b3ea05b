pub mod Doing
pub mod OfFollows
pub mod OfLawNames
