-- Passed on for crates above.
pub use Rattle.gsl_lower_law_names.proofs.Reading.{outside_blocks, value_as_it_is, variable_there}
pub use Rattle.gsl_lower_law_names.proofs.Storing.{Other, holds_set, kept_set, typed_set}
