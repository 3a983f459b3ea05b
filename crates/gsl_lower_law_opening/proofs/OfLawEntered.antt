-- Passed on for crates above.
pub use Rattle.gsl_lower_law_entered.proofs.Given.{among_at, map_there, mapped}
