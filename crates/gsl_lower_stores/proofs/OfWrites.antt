-- Passed on for crates above.
pub use Rattle.gsl_lower_law_renewed.proofs.OfWrites.{adds_stores, always_renewed}
