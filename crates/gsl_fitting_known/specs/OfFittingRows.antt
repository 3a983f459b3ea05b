-- Passed on for crates above.
pub use Rattle.gsl_fitting_rows.specs.Rows.{ArePlain, EvaluateEach, HasParts, HaveTypes, Row, asked_in, asked_in_turn, components_of, last_type, types_in}
