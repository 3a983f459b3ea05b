-- Passed on for crates above.
pub use Rattle.gsl_lower_law_picks.proofs.Along.{block_strays, stray_behind, stray_on}
