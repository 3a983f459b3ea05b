pub mod Calls
pub mod Facts
pub mod Extended
pub mod Arguments
pub mod Called
