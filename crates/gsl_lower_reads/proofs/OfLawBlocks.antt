-- Passed on for crates above.
pub use Rattle.gsl_lower_elements.proofs.OfLawBlocks.{LeadsSo, LieSeen, leaves_lie, paths_lead, run_lies}
