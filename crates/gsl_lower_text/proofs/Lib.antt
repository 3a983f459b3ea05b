pub mod Constants
pub mod Texts
pub mod Finishes
pub mod Lasting
