-- Passed on for crates above.
pub use Rattle.gsl_lower_law_returns.proofs.OfLawStmt.{adds_putting, return_nothing_does}
