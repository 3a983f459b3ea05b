pub mod Traits
