-- Passed on for crates above.
pub use Rattle.gsl_lower_law_leaves.specs.Equal.{HasLeaves, leaf_in}
