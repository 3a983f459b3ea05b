-- Passed on for crates above.
pub use Rattle.gsl_lower_law_operators.proofs.Binaries.{binary_computes}
pub use Rattle.gsl_lower_law_operators.proofs.Conversions.{converted_computes}
pub use Rattle.gsl_lower_law_operators.proofs.Straights.{logical_computes}
