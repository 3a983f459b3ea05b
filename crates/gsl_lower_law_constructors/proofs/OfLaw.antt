-- Passed on for crates above.
pub use Rattle.gsl_lower_law_operators.proofs.OfLaw.{Any, AreBelow, IsType, Performs, Yields, acts_then, components_of, does_then, extends_put, given_does, giving_does, giving_grows, giving_strays, grows_then, intern_does, one_word, picked_computes, putting_acts, scalar_stands, strays_before, strays_then, takes, type_does, typed_grows, yielding_does}
