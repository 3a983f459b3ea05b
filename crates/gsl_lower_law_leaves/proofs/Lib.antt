pub mod Compared
pub mod Typed
pub mod Structs
