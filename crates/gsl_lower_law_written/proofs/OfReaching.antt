-- Passed on for crates above.
pub use Rattle.gsl_lower_writes.proofs.OfReaching.{IsWhole, index_is, numbers_so, out_whole, picks_so, whole_picked}
