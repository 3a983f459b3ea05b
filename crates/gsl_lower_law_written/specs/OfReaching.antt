-- Passed on for crates above.
pub use Rattle.gsl_lower_writes.specs.OfReaching.{AtBlock, AtVariable, Chosen, IsBlockTrail, IsChosen, IsInside, IsOutside, IsPicked, IsTrail, MayStore, MayWrite, OfBlock, PicksBy, Start, Trail, in_block, own, variable}
