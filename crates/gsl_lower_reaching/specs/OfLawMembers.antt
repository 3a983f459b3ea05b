-- Passed on for crates above.
pub use Rattle.gsl_lower_law_members.specs.Parts.{IsRow, laid_as}
pub use Rattle.gsl_lower_law_members.specs.Parts.IsRow.{counted, endless}
pub use Rattle.gsl_lower_law_members.specs.Sizes.{size_of}
