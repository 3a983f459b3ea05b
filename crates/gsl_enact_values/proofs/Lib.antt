pub mod Lists
pub mod Followed
pub mod Definers
