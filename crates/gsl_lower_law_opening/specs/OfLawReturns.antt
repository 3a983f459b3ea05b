-- Passed on for crates above.
pub use Rattle.gsl_lower_law_entered.specs.OfLawReturns.{is_own, is_shared}
