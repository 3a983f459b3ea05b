-- Passed on for crates above.
pub use Rattle.gsl_lower_elements.specs.Indexes.{Indexes, indexed_means}
