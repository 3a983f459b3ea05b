-- Passed on for crates above.
pub use Rattle.gsl_lower_reads.proofs.Adding.{adds_reads, always_each, always_extracted, always_pointed, always_put, always_read}
pub use Rattle.gsl_lower_reads.proofs.First.{HasFirst, fixed_numbers, value_first}
pub use Rattle.gsl_lower_reads.proofs.Found.{read_typed}
pub use Rattle.gsl_lower_reads.proofs.Holds.{adds_fetched, adds_held, is_fetched, is_held}
pub use Rattle.gsl_lower_reads.proofs.Probing.{adds_probe, probe_in, probe_out}
pub use Rattle.gsl_lower_reads.proofs.Straying.{read_strays}
pub use Rattle.gsl_lower_reads.proofs.Taking.{taken}
