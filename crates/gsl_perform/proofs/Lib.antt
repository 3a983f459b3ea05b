pub mod Steps
pub mod Rows
pub mod Products
pub mod Lasts
