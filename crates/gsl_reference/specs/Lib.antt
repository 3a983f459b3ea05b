pub mod Texts
pub mod Asked
pub mod Owed
pub mod Steps
