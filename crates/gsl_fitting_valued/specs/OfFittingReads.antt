-- Passed on for crates above.
pub use Rattle.gsl_fitting_known.specs.OfFittingReads.{HasLeaf, IsGot, IsPut, both, held_if}
