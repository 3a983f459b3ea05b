pub mod Layers
pub mod Shaped
pub mod Lists
