pub mod Identity
pub mod Best
pub mod Favourite
