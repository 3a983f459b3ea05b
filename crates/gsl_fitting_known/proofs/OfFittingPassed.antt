-- Passed on for crates above.
pub use Rattle.gsl_fitting_passed.proofs.Called.{call_evaluates}
