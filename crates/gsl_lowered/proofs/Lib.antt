pub mod Filed
pub mod Judged
pub mod Deciding
