pub mod Copying
pub mod Worded
pub mod OfLawLeaves
