-- Passed on for crates above.
pub use Rattle.gsl_lower_reads.proofs.OfReaching.{IsWhole, chooses_stand, index_is, numbers_so, out_whole, picks_so, whole_picked}
