pub mod Copied
pub mod Told
pub mod ToldStructs
pub mod OfLawPicks
