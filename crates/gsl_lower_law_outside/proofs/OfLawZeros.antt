-- Passed on for crates above.
pub use Rattle.gsl_lower_law_opening.proofs.OfLawZeros.{null_begins}
