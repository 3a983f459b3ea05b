pub mod Sized
pub mod Laid
pub mod Vectors
pub mod Told
pub mod OfLawBytes
