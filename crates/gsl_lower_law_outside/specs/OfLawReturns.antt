-- Passed on for crates above.
pub use Rattle.gsl_lower_law_opening.specs.OfLawReturns.{is_shared}
