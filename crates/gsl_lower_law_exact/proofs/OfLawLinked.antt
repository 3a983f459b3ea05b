-- Passed on for crates above.
pub use Rattle.gsl_lower_law_linked.proofs.Linked.{linked_nest}
