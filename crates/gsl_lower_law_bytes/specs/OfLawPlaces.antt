-- Passed on for crates above.
pub use Rattle.gsl_lower_law_components.specs.OfLawPlaces.{IsVectorType, StraysFrom, chosen, picks_of}
