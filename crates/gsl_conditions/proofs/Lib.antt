pub mod Skips
pub mod Grammatical
