-- Passed on for crates above.
pub use Rattle.gsl_lower_law.proofs.Adding.{extends_put}
pub use Rattle.gsl_lower_law.proofs.Components.{components_of, length_replicated, words_replicated}
pub use Rattle.gsl_lower_law.proofs.Constants.{scalar_stands}
pub use Rattle.gsl_lower_law.proofs.Gathers.{construct_does, each_stands}
pub use Rattle.gsl_lower_law.proofs.Giving.{Performs, Yields, giving_does, giving_grows, yielding_does}
pub use Rattle.gsl_lower_law.proofs.Joining.{acts_then, does_then, given_does, grows_then}
pub use Rattle.gsl_lower_law.proofs.Picking.{AreBelow, one_word, picked_computes, takes}
pub use Rattle.gsl_lower_law.proofs.Plain.{Any, IsType, intern_does, type_does}
pub use Rattle.gsl_lower_law.proofs.Putting.{putting_acts}
pub use Rattle.gsl_lower_law.proofs.Straying.{giving_strays, strays_before, strays_then}
pub use Rattle.gsl_lower_law.proofs.Typed.{typed_grows}
