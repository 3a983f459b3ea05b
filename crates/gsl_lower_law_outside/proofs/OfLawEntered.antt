-- Passed on for crates above.
pub use Rattle.gsl_lower_law_opening.proofs.OfLawEntered.{among_at, map_there, mapped}
