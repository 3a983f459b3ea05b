pub mod Known
pub mod Outside
pub mod Beginning
pub mod OfLawOpening
pub mod OfLawReturns
pub mod OfLawEntered
