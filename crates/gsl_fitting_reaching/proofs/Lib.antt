pub mod Deeper
pub mod Serving
pub mod Names
