-- Passed on for crates above.
pub use Rattle.gsl_spv.specs.Sections.{Sections}
