-- Passed on for crates above.
pub use Rattle.gsl_lower_law_blocks.proofs.Laid.{LeadsSo, paths_lead}
pub use Rattle.gsl_lower_law_blocks.proofs.Lying.{LieSeen, leaves_lie, run_lies}
