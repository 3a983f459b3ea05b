pub mod Typed
pub mod Depths
pub mod Asked
pub mod Alike
pub mod OfLawEvaluated
