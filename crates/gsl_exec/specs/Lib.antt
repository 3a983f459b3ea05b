pub mod Texts
pub mod Judged
pub mod Owed
pub mod Steps
pub mod Done
