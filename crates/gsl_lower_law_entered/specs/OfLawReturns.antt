-- Passed on for crates above.
pub use Rattle.gsl_lower_law_returns.specs.Calling.{AreAlike, IsBack, is_own, is_shared}
