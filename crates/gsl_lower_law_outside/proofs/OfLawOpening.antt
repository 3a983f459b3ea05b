-- Passed on for crates above.
pub use Rattle.gsl_lower_law_opening.proofs.Opened.{opened}
pub use Rattle.gsl_lower_law_opening.proofs.Steps.{same_flow, same_given, step_opens}
