-- Passed on for crates above.
pub use Rattle.gsl_lower_law_written.proofs.OfReaching.{numbers_so, picks_so}
