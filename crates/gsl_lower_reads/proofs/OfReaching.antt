-- Passed on for crates above.
pub use Rattle.gsl_lower_elements.proofs.OfReaching.{HasValue, IsWhole, chooses_stand, has_part, has_value, index_is, lacks_part, numbers_so, numbers_stand, out_whole, own_after, picks_so, trail_after, whole_picked}
