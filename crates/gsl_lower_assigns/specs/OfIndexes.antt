-- Passed on for crates above.
pub use Rattle.gsl_lower_indexes.specs.Computed.{CanTest, spilled_to}
