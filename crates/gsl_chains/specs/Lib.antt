pub mod Chains
pub mod Globals
