-- Passed on for crates above.
pub use Rattle.gsl_lower_writes.specs.OfReads.{IsKept, IsTested}
