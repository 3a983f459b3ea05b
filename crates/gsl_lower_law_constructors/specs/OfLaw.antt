-- Passed on for crates above.
pub use Rattle.gsl_lower_law_operators.specs.OfLaw.{Acts, AreWords, Computes, Does, Grows, IsOf, Keeps, Left, Stands, Strays, converted_value, drawing, logic_answer, picked_value}
