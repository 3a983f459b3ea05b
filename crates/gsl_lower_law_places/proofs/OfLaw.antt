-- Passed on for crates above.
pub use Rattle.gsl_lower_law_constructors.proofs.OfLaw.{IsType, does_then, given_does, grows_then, scalar_stands, type_does}
