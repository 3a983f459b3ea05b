pub mod Bytes
pub mod Renewed
pub mod Put
pub mod OfLawMembers
