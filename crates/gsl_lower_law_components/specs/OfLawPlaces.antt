-- Passed on for crates above.
pub use Rattle.gsl_lower_law_picks.specs.OfLawPlaces.{IsVectorType, StraysFrom, chosen, picks_of, set_each}
