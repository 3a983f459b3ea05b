pub mod Words
pub mod Definitions
pub mod Directives
pub mod Unit
pub mod Feeding
