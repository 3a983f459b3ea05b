pub mod Chains
pub mod Ways
pub mod Moves
pub mod Parting
pub mod Storing
pub mod Pointing
pub mod Components
