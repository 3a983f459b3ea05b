pub mod Filing
pub mod Sound
