-- Passed on for crates above.
pub use Rattle.gsl_lower_law_stmt.specs.Doing.{AtReturn, DoesStatement, IsDone, IsResult, LeadBehind, UnderExits}
