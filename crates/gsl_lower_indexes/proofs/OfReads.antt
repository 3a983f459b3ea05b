-- Passed on for crates above.
pub use Rattle.gsl_lower_reads.proofs.Accessed.{place_gives}
pub use Rattle.gsl_lower_reads.proofs.Adding.{adds_reads}
pub use Rattle.gsl_lower_reads.proofs.Holds.{adds_fetched, adds_held, is_fetched, is_held}
pub use Rattle.gsl_lower_reads.proofs.Probing.{adds_tested, kept_in, kept_none, kept_out}
pub use Rattle.gsl_lower_reads.proofs.Straying.{read_strays}
pub use Rattle.gsl_lower_reads.proofs.Taking.{taken}
