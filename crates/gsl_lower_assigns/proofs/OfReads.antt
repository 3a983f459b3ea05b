-- Passed on for crates above.
pub use Rattle.gsl_lower_indexes.proofs.OfReads.{place_gives}
