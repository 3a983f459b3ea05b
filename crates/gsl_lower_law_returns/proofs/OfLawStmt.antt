-- Passed on for crates above.
pub use Rattle.gsl_lower_law_stmt.proofs.Exits.{adds_putting, return_nothing_does}
