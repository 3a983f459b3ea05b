-- Passed on for crates above.
pub use Rattle.gsl_lower_law_shader.proofs.OfLawEvaluated.{at_place, conversion_of, length_kind_of, length_small}
