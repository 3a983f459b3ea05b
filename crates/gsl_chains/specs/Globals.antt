-- How many words the module's own variables hold.
use Rattle.std.specs.Prelude.{ℕ, drop}
use Rattle.std.specs.List.{filter_map, sum_by}
use Rattle.gsl_words.specs.declared.module.Module.{Module}
use Rattle.gsl_valid.specs.Instruction.{read}
use Rattle.gsl_valid.specs.Kinds.{variable_is}
use Rattle.gsl_valid.specs.Types.{before_functions}
use Rattle.gsl_machine.specs.Interfaces.{all_variables}
use Rattle.gsl_frames.specs.Frames.{variable_words}

-- of all of them: those of blocks hold none
abbrev pub global_words : Module → ℕ
global_words m = sum_by (variable_words m) (all_variables m)

-- of those from the instruction of a number on
abbrev pub later_words : Module → ℕ → ℕ
later_words m at = sum_by (variable_words m) (filter_map (λ i. variable_is (read i)) (before_functions (drop at m.instrs)))
