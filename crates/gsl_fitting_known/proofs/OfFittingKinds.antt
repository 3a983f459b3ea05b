-- Passed on for crates above.
pub use Rattle.gsl_fitting_kinds.proofs.Evaluated.{counted_evaluates, equality_evaluates, length_evaluates, stage_evaluates}
