pub mod Small
pub mod Scenes
pub mod Parts
pub mod Labels
