-- Passed on for crates above.
pub use Rattle.gsl_lower_law_bound.specs.OfLawInputs.{AreInitialised, stage_given, stage_vars, stages_given, where_named}
