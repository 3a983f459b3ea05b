-- Passed on for crates above.
pub use Rattle.gsl_fitting_known.proofs.OfFittingPassed.{call_evaluates}
