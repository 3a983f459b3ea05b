-- Passed on for crates above.
pub use Rattle.gsl_lower_reaching.specs.Reaching.{At, AtBlock, AtVariable, Begins, ChoosesBy, GivesPlace, HasReached, HasStrayed, IsBlockTrail, IsFixed, IsOwnTrail, IsTrail, NumberBy, NumberEachBy, PicksBy, Start, is_of_value, root_of}
pub use Rattle.gsl_lower_reaching.specs.Reaching.Begins.{holder, value, variable}
pub use Rattle.gsl_lower_reaching.specs.Reaching.IsTrail.{in_block, own}
pub use Rattle.gsl_lower_reaching.specs.Reaching.Start.{OfBlock, OfValue, OfVariable}
pub use Rattle.gsl_lower_reaching.specs.Trails.{ArePicked, ArePositions, Chosen, IsChosen, IsInside, IsMissing, IsOut, IsOutside, IsPicked, LacksComponent, LeadsOut, MayStore, MayWrite, Trail, effective}
pub use Rattle.gsl_lower_reaching.specs.Trails.ArePicked.{component, repeated, swizzled}
