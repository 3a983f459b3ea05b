pub mod Sorting
pub mod Anew
pub mod Knowing
pub mod Stepping
pub mod Types
