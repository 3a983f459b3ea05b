-- Passed on for crates above.
pub use Rattle.gsl_lower_law_members.proofs.Vectors.{vector_is}
