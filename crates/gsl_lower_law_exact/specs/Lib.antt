pub mod Exactly
pub mod Sizes
pub mod OfLawLinked
