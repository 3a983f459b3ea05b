-- Passed on for crates above.
pub use Rattle.gsl_lower_law_places.specs.Components.{AreWithin, Chooses, HoldsComponents, Picks, chosen, picks_of}
pub use Rattle.gsl_lower_law_places.specs.Leading.{LeadsTo, NumberEach, Numbers, StraysFrom}
pub use Rattle.gsl_lower_law_places.specs.Storing.{AreStored, IsVectorType, buffers_with, goes_to, set_each}
