-- Passed on for crates above.
pub use Rattle.gsl_lower_law.specs.Computing.{Acts, Computes, Does, Grows, Left, drawing}
pub use Rattle.gsl_lower_law.specs.Operands.{AllStand, converted_value, logic_answer, picked_value}
pub use Rattle.gsl_lower_law.specs.Straying.{Strays}
pub use Rattle.gsl_lower_law.specs.Values.{AreWords, IsOf, Keeps, StandEach, Stands}
