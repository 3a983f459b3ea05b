-- Passed on for crates above.
pub use Rattle.gsl_lower_writes.specs.Serving.{IsReady, Serves}
pub use Rattle.gsl_lower_writes.specs.Written.{IsWritten}
