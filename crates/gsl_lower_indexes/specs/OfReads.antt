-- Passed on for crates above.
pub use Rattle.gsl_lower_reads.specs.Accessing.{accessed_means}
pub use Rattle.gsl_lower_reads.specs.Waiting.{IsKept}
