-- Passed on for crates above.
pub use Rattle.gsl_lower_law_constructors.proofs.OfLawOperators.{binary_computes, converted_computes, logical_computes}
