-- Passed on for crates above.
pub use Rattle.gsl_lower_law_written.proofs.OfReads.{adds_fetched, adds_held, adds_probe, adds_reads, always_read, is_fetched, is_held, probe_in, probe_out, read_strays, read_typed, taken}
