-- Passed on for crates above.
pub use Rattle.gsl_lower_law_functions.proofs.Depths.{call_does}
pub use Rattle.gsl_lower_law_functions.proofs.Done.{function_does}
pub use Rattle.gsl_lower_law_functions.proofs.Ended.{body_does, void_body_does}
