pub mod Live
pub mod Sources
