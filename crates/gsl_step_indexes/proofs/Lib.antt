pub mod Telling
pub mod Picks
pub mod Chains
pub mod Followed
