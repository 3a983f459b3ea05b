pub mod Doing
pub mod Forking
pub mod Simple
