-- Passed on for crates above.
pub use Rattle.gsl_fitting_known.specs.OfFittingPassed.{ArePassed, GoesBack, GoesBackBy, HasZeros, IsCallable, IsDeclared, IsPassed, Way, asked_by_all, types_of}
