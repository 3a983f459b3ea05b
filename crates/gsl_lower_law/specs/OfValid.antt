-- Passed on for crates above.
pub use Rattle.gsl_valid.specs.Ids.{result}
pub use Rattle.gsl_valid.specs.Instruction.{read}
pub use Rattle.gsl_valid.specs.Kinds.{Gives, kind}
