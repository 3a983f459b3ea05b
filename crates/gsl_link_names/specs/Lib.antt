pub mod Earlier
pub mod Rows
pub mod Against
