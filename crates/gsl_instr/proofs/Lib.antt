pub mod Ends
pub mod Utf8
pub mod Texts
pub mod Fittings
pub mod Opcodes
pub mod Forms
pub mod Agreeing
