pub mod Along
pub mod Outside
pub mod Unstored
pub mod Parted
pub mod Pointed
pub mod OfLawConstructors
pub mod OfLawPlaces
