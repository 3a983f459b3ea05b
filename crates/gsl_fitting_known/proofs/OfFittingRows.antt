-- Passed on for crates above.
pub use Rattle.gsl_fitting_rows.proofs.Operands.{built_evaluates, called_evaluates, sequence_evaluates, together_evaluates}
