pub mod Buffers
pub mod Seen
pub mod Viewed
pub mod Mutable
pub mod Paths
pub mod Lending
