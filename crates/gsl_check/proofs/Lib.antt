mod Example
pub mod Keeping
pub mod Bodies
pub mod Behind
