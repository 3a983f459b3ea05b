pub mod Apart
pub mod OfLawPlaces
