-- Passed on for crates above.
pub use Rattle.gsl_lower_law_constructors.specs.OfLaw.{AreWords, Computes, Grows, IsOf, Stands, logic_answer}
