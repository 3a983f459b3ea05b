-- Passed on for crates above.
pub use Rattle.gsl_lower_law_returns.specs.OfLawStmt.{AtReturn, DoesStatement, IsDone, IsResult, LeadBehind, UnderExits}
