pub mod Standing
pub mod Ranks
pub mod Alike
pub mod Shaders
pub mod OfLawEvaluated
