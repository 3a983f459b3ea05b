-- Passed on for crates above.
pub use Rattle.gsl_lower_indexes.specs.OfElements.{Indexes, indexed_means}
