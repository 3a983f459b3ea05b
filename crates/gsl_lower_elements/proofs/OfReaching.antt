-- Passed on for crates above.
pub use Rattle.gsl_lower_reaching.proofs.Counted.{has_part, lacks_part, not_both}
pub use Rattle.gsl_lower_reaching.proofs.Moving.{begins_so, chooses_stand, number_so, numbers_so, numbers_stand, own_after, picks_so, trail_after}
pub use Rattle.gsl_lower_reaching.proofs.Parts.{IsWhole, out_whole, whole_picked}
pub use Rattle.gsl_lower_reaching.proofs.Seen.{HasValue, has_value, index_is, there, there_typed}
