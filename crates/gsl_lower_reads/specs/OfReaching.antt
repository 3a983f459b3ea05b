-- Passed on for crates above.
pub use Rattle.gsl_lower_elements.specs.OfReaching.{ArePicked, ArePositions, At, AtBlock, AtVariable, Begins, ChoosesBy, Chosen, GivesPlace, HasReached, HasStrayed, IsBlockTrail, IsChosen, IsInside, IsMissing, IsOut, IsOutside, IsOwnTrail, IsPicked, IsTrail, LacksComponent, LeadsOut, MayStore, MayWrite, OfBlock, OfValue, OfVariable, PicksBy, Start, Trail, component, effective, holder, in_block, is_of_value, own, repeated, root_of, swizzled, value, variable}
