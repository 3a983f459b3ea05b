-- Passed on for crates above.
pub use Rattle.gsl_lower_law_constructors.proofs.Shares.{where_all_stand, words_in, zeros_are, zeros_of}
