-- Passed on for crates above.
pub use Rattle.gsl_lower_law_zeros.proofs.Said.{null_begins, scalar_zero, vector_zero, zeros_before, zeros_unfold}
