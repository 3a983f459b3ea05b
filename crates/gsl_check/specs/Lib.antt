pub mod Functions
pub mod Units
