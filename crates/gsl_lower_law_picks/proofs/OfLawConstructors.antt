-- Passed on for crates above.
pub use Rattle.gsl_lower_law_places.proofs.OfLawConstructors.{words_in}
