pub mod Fresh
pub mod Items
pub mod Passing
pub mod Backs
pub mod Called
pub mod Calls
pub mod OfLawFunctions
