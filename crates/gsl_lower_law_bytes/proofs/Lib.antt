pub mod Sized
pub mod Told
pub mod Parts
pub mod Buffers
pub mod OfLawPlaces
pub mod OfLawPicks
