-- Passed on for crates above.
pub use Rattle.gsl_fitting_reads.specs.Moving.{GivesLeaf, HasLeaf, IsGot, IsPut, both}
pub use Rattle.gsl_fitting_reads.specs.Waiting.{held_if}
