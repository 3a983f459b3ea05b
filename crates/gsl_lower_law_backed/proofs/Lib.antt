pub mod Alone
pub mod Backed
