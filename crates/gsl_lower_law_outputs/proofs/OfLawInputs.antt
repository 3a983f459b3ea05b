-- Passed on for crates above.
pub use Rattle.gsl_lower_law_inputs.proofs.Begun.{decorations_said, globals_begin, input_counted, interfaces_begin, sized, stages_begin, stand}
pub use Rattle.gsl_lower_law_inputs.proofs.Given.{stages_typed}
pub use Rattle.gsl_lower_law_inputs.proofs.Typed.{variables_typed}
pub use Rattle.gsl_lower_law_inputs.proofs.Decorated.{no_location, number_found}
pub use Rattle.gsl_lower_law_inputs.proofs.OfLawOutside.{made_by, same_after, same_made}
