-- Passed on for crates above.
pub use Rattle.gsl_lower_expr.specs.Lowering.{leading}
pub use Rattle.gsl_lower_expr.specs.Parts.{Lower, accessed, after_assign, assigned, before_assign, class_by, interface_class, named, probe_by, read_block, read_by, read_own, store_by}
unfoldable pub use Rattle.gsl_lower_expr.specs.Parts.{probe, reads, stores}
