-- Passed on for crates above.
pub use Rattle.gsl_lower_law_stored.proofs.Renewed.{bytes_there, renewed}
