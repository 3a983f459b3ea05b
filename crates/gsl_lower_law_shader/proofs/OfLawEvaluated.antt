-- Passed on for crates above.
pub use Rattle.gsl_lower_law_evaluated.proofs.Facts.{at_place, conversion_of, length_small}
pub use Rattle.gsl_lower_law_evaluated.proofs.Lengths.{length_kind_of}
pub use Rattle.gsl_lower_law_evaluated.proofs.Whole.{expr_evaluates}
