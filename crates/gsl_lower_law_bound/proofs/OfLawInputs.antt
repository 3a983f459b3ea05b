-- Passed on for crates above.
pub use Rattle.gsl_lower_law_inputs.proofs.Begun.{globals_begin, interfaces_begin, stages_begin}
pub use Rattle.gsl_lower_law_inputs.proofs.Given.{stages_typed}
pub use Rattle.gsl_lower_law_inputs.proofs.Typed.{first_met, met, second_met, variables_typed}
