-- Passed on for crates above.
pub use Rattle.gsl_lower_law_outside.proofs.OfLawEntered.{among_at, mapped}
