pub mod Steps
pub mod Declaring
pub mod Locals
pub mod Structs
pub mod Declarations
pub mod Globals
pub mod Tables
