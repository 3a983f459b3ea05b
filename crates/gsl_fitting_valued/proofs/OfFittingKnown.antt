-- Passed on for crates above.
pub use Rattle.gsl_fitting_known.proofs.Found.{by_leaf, got, layer_real, place_fits, put, shaped_real, wants_reads}
pub use Rattle.gsl_fitting_known.proofs.Leaves.{leaves_there}
pub use Rattle.gsl_fitting_known.proofs.Roomy.{lies_roomy}
pub use Rattle.gsl_fitting_known.proofs.Types.{plain_known, scalar_for, shaped_known, some_is, type_known}
pub use Rattle.gsl_fitting_known.proofs.Wanting.{if_for, lead_for, lead_types, types_append, types_if, wants_given, wants_hold, wants_holder, wants_last, wants_lead, wants_then}
