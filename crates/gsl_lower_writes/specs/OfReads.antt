-- Passed on for crates above.
pub use Rattle.gsl_lower_reads.specs.Testing.{IsTested}
pub use Rattle.gsl_lower_reads.specs.Waiting.{IsKept}
