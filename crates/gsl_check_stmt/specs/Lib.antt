pub mod Rules
pub mod Switches
pub mod Statements
