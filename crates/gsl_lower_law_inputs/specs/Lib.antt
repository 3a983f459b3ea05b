pub mod Beginning
pub mod OfLawOutside
pub mod OfLawEntered
