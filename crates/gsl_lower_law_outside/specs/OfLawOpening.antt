-- Passed on for crates above.
pub use Rattle.gsl_lower_law_opening.specs.Opening.{AllHaveZeros, AreNew, HasOpened, HasZeros, Taken, ids_declared, ids_taken, takes}
