-- Passed on for crates above.
pub use Rattle.gsl_lower_law_inputs.specs.OfLawOutside.{BeginsWith, HaveOutside}
