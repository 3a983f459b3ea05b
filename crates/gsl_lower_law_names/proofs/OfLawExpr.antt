-- Passed on for crates above.
pub use Rattle.gsl_lower_law_expr.proofs.Binary.{shape_is}
pub use Rattle.gsl_lower_law_expr.proofs.Operands.{after_less, given_behind, given_value}
pub use Rattle.gsl_lower_law_expr.proofs.Shapes.{value_shape}
pub use Rattle.gsl_lower_law_expr.proofs.Short.{behind_assoc, does_change}
pub use Rattle.gsl_lower_law_expr.proofs.Steps.{Always, always_converted, always_given, always_giving, always_then, always_type}
