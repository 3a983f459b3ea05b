pub mod Structs
pub mod Conversions
pub mod Leaves
pub mod Spelling
pub mod Known
