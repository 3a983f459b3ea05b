-- Passed on for crates above.
pub use Rattle.gsl_lower_law_returns.proofs.Returned.{given_by, put_here, returned_back}
