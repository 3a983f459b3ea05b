pub mod Longer
pub mod Pushed
pub mod Turns
pub mod Plain
pub mod Gathering
pub mod Example
pub mod Scoping
pub mod Tabled
