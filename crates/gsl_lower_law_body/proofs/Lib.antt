mod Leaving
pub mod Bodied
