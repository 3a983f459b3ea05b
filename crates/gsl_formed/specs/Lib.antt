pub mod Nested
pub mod Formed
