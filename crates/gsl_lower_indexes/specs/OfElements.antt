-- Passed on for crates above.
pub use Rattle.gsl_lower_reads.specs.OfElements.{Indexes, indexed_means}
