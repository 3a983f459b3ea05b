-- Passed on for crates above.
pub use Rattle.gsl_lower_law_written.proofs.Outside.{block_unwritten}
pub use Rattle.gsl_lower_law_written.proofs.Written.{block_written}
