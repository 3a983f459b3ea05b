-- Passed on for crates above.
pub use Rattle.gsl_lower_law_shader.specs.OfLawEvaluated.{AsksLengthOf, IsTyped, KnowsBuffers, KnowsMember, KnowsStage, meant_in}
