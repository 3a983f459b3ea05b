-- Passed on for crates above.
pub use Rattle.gsl_lower_law_evaluated.specs.Evaluating.{Asks, AsksLengthOf, IsEvaluated, IsTyped, KnowsBuffers, KnowsMember, KnowsStage, NoVectors, lowered_in, meant_in}
