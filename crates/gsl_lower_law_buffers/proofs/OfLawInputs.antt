-- Passed on for crates above.
pub use Rattle.gsl_lower_law_bound.proofs.OfLawInputs.{globals_begin, interfaces_begin, stages_begin, stages_typed, variables_typed}
