-- Passed on for crates above.
pub use Rattle.gsl_lower_law_written.specs.OfWrites.{IsReady, IsWritten, Serves}
