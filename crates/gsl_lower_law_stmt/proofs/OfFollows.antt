-- Passed on for crates above.
pub use Rattle.gsl_lower_follows.proofs.Holding.{holder_number}
pub use Rattle.gsl_lower_follows.proofs.Reached.{reached_by}
pub use Rattle.gsl_lower_follows.proofs.Stretches.{stretch_one}
