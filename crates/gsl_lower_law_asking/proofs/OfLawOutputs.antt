-- Passed on for crates above.
pub use Rattle.gsl_lower_law_outputs.proofs.Functions.{declares_none_behind}
pub use Rattle.gsl_lower_law_outputs.proofs.Outs.{outputs_are}
