pub mod Cut
pub mod Entered
