pub mod Same
pub mod Bests
pub mod Walks
