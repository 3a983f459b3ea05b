-- Passed on for crates above.
pub use Rattle.gsl_lower_law_bytes.specs.Apart.{AreApart, IsApart, IsOnly, StandsAlone}
