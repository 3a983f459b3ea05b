-- Passed on for crates above.
pub use Rattle.gsl_lower_law_linked.specs.Nesting.{AreOnce, MayNest}
