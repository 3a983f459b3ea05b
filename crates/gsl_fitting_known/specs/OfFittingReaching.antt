-- Passed on for crates above.
pub use Rattle.gsl_fitting_reaching.specs.Reached.{May, Stands, named_spot}
