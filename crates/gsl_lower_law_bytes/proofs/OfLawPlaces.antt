-- Passed on for crates above.
pub use Rattle.gsl_lower_law_components.proofs.OfLawPlaces.{component_converted, mapped_length}
