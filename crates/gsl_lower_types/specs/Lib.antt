pub mod Known
pub mod Declaring
pub mod Values
pub mod Laid
pub mod Blocks
pub mod Globals
pub mod Interfaces
pub mod Finding
