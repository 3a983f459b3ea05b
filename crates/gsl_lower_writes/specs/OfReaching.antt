-- Passed on for crates above.
pub use Rattle.gsl_lower_reads.specs.OfReaching.{ArePositions, AtBlock, AtVariable, Chosen, IsBlockTrail, IsChosen, IsInside, IsOut, IsOutside, IsPicked, IsTrail, LacksComponent, LeadsOut, MayStore, MayWrite, OfBlock, PicksBy, Start, Trail, in_block, own, variable}
