pub mod Sorted
pub mod Placing
pub mod Products
