pub mod Kept
pub mod Bytes
pub mod Flattened
pub mod Found
pub mod Decoded
pub mod Judgements
