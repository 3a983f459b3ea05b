-- Passed on for crates above.
pub use Rattle.gsl_lower_law_written.specs.OfReaching.{AtVariable, IsBlockTrail, IsInside, IsOutside, IsTrail, MayStore, OfBlock, Start, Trail, in_block, own, variable}
