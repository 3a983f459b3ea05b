pub mod Firsts
pub mod Types
pub mod Structs
pub mod Declarations
pub mod Agreement
