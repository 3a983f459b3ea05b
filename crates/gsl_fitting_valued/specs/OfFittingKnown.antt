-- Passed on for crates above.
pub use Rattle.gsl_fitting_known.specs.Fitted.{AllHave, AllHaveIds, Asks, AsksFor, Fits, IsFitted, IsSilent, LeadsThere, MayCall, is_valued, setting_in}
pub use Rattle.gsl_fitting_known.specs.Ids.{Agree, Wants, is_nowhere, is_picked, type_for, word_of}
pub use Rattle.gsl_fitting_known.specs.Known.{Knows}
pub use Rattle.gsl_fitting_known.specs.Lying.{LieAll, Lies}
