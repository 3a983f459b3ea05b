-- Where a variable stands among the words of all variables.
use Rattle.std.specs.Prelude.{ℕ, List, take}
use Rattle.std.specs.List.{sum_by}
use Rattle.gsl_words.specs.declared.module.Module.{Module}
use Rattle.gsl_valid.specs.Kinds.{Variable}
use Rattle.gsl_leaves.specs.Leaves.{leaves}
use Rattle.gsl_sound_types.specs.Typed.{types_of}

-- how many words the first of some variables hold
abbrev pub words_ahead : Module → ℕ → List Variable → ℕ
words_ahead m number variables = sum_by (leaves m) (take number (types_of m variables))
