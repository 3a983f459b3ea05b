pub mod Pointers
pub mod Moved
