-- Passed on for crates above.
pub use Rattle.gsl_lower_law_functions.specs.Bodies.{AtResult, DoesBody, GivesZeros, bodied}
pub use Rattle.gsl_lower_law_functions.specs.Functions.{FunctionDoes, IsLowered, running_body}
