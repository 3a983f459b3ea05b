pub mod Looks
pub mod Opcodes
pub mod Targets
pub mod Bodies
pub mod Spots
pub mod Walks
pub mod Functions
pub mod Entries
