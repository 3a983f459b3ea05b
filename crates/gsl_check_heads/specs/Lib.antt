pub mod Builtins
pub mod Heads
pub mod Finding
