-- How large a module may be for its program.
use Rattle.std.specs.Prelude.{◌+◌, ◌-◌, ◌*◌, ◌≤◌}
use Rattle.gsl_words.specs.declared.module.Module.{Module}
use Rattle.gsl_tree.specs.declared.program.Program.{Program}
use Rattle.gsl_tree.specs.Weights.{program_weight}
use Rattle.gsl_valid.specs.Placed.{count_of_words}

-- at most 20 ids and 400 words for each unit of weight, and 4,096 of both
pub record IsSmall (m : Module) (p : Program) : Type 0 where
  pub ids : m.bound - 1 ≤ 20 * program_weight p + 4096
  pub words : count_of_words m ≤ 400 * program_weight p + 4096
