mod Apart
mod Chosen
mod Joined
mod Numbered
mod Ordered
mod Places
pub mod Sited
mod Sizes
mod Stood
pub mod Tabled
