-- Passed on for crates above.
pub use Rattle.gsl_lower_elements.proofs.OfLawNames.{Other, holds_set, kept_set, outside_blocks, typed_set, value_as_it_is, variable_there}
