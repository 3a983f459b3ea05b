-- A module carries a program.
use Rattle.gsl_words.specs.declared.module.Module.{Module}
use Rattle.gsl_tree.specs.declared.program.Program.{Program}
use Rattle.gsl_valid.specs.Valid.{Valid}
use Rattle.gsl_owed.specs.Places.{Places}
use Rattle.gsl_owed.specs.Runs.{Runs}

-- It is valid, puts everything where it belongs, and does what the shader does.
pub record Carries (m : Module) (p : Program) : Type 0 where
  pub valid : Valid m
  pub placed : Places m p
  pub runs : Runs m p
