-- Passed on for crates above.
pub use Rattle.gsl_lower_reaching.proofs.OfLawExpr.{Always, always_converted, always_given, always_giving, always_then, always_type, does_change, given_behind, value_shape}
