-- Passed on for crates above.
pub use Rattle.gsl_lower_writes.proofs.OfReads.{HasFirst, adds_fetched, adds_held, adds_probe, adds_reads, always_each, always_extracted, always_pointed, always_put, always_read, fixed_numbers, is_fetched, is_held, probe_in, probe_out, read_strays, read_typed, taken, value_first}
