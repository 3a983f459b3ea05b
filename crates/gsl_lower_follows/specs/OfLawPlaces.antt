-- Passed on for crates above.
pub use Rattle.gsl_lower_law_places.specs.Leading.{HoldsValue}
pub use Rattle.gsl_lower_law_places.specs.Storing.{Stores}
