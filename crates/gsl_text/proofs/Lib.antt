pub mod Splitting
pub mod Naturals
pub mod Decimals
