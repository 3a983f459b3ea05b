pub mod formers
pub mod Code
pub mod Checked
pub mod Faults
pub mod Proper
pub mod Ranges
pub mod Prefix
