pub mod Called
pub mod Linked
