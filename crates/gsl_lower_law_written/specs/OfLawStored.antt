-- Passed on for crates above.
pub use Rattle.gsl_lower_law_stored.specs.Buffers.{HasBuffer, IsBound, KnowsBuffers, with_bytes_of, with_value}
