-- Passed on for crates above.
pub use Rattle.gsl_lower_law_members.proofs.Laid.{IsMember, block_member_at, element_laid, leads_further, row_array, row_laid, row_short, shape_laid}
pub use Rattle.gsl_lower_law_members.proofs.Sized.{size_is}
pub use Rattle.gsl_lower_law_members.proofs.Told.{picks_told, whole_told}
pub use Rattle.gsl_lower_law_members.proofs.Vectors.{component_strays, vector_is}
