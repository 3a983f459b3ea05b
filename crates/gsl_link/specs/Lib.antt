pub mod Rows
pub mod Joined
pub mod Units
pub mod Finding
pub mod Sides
pub mod Left
