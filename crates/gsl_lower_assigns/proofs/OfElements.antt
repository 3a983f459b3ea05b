-- Passed on for crates above.
pub use Rattle.gsl_lower_indexes.proofs.OfElements.{length_gives, literal_place}
