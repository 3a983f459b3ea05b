mod Bodies
mod Arguments
mod Called
pub mod Ranked
pub mod Ended
pub mod OfLawEvaluated
