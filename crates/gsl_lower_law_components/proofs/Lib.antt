pub mod Parted
pub mod Served
pub mod OfLawPlaces
pub mod OfLawPicks
