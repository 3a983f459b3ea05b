-- Passed on for crates above.
pub use Rattle.gsl_lower_law_bytes.proofs.Buffers.{value_bytes, value_set}
pub use Rattle.gsl_lower_law_bytes.proofs.Parts.{AreTold, PartsTold, parts_told}
pub use Rattle.gsl_lower_law_bytes.proofs.Sized.{value_length}
pub use Rattle.gsl_lower_law_bytes.proofs.Told.{bytes_told, small_words}
