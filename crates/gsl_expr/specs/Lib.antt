pub mod Expressions
pub mod Held
pub mod InHand
pub mod Names
pub mod Nests
pub mod Reading
pub mod Rules
