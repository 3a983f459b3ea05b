pub mod Leading
pub mod Components
pub mod Storing
pub mod OfLaw
