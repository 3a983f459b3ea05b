-- Passed on for crates above.
pub use Rattle.gsl_lower_law_names.proofs.OfLawExpr.{given_value}
