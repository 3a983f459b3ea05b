-- Passed on for crates above.
pub use Rattle.gsl_lower_law_outside.proofs.Keeping.{asks_add, extends_declare, made_by, same_after, same_made}
pub use Rattle.gsl_lower_law_outside.proofs.Program.{decorated_adds, gives_add}
