-- A table of the types that have an array without length in them.
use Rattle.std.specs.Prelude.{◌≡◌, ℕ, Bool, false, List, [], slice_index_or, take}
use Rattle.gsl_words.specs.declared.module.Module.{Module}
use Rattle.gsl_valid.specs.Placed.{Code}
use Rattle.gsl_valid.specs.Search.{passed}
use Rattle.gsl_valid.specs.Types.{has_in, is_runtime}

-- The rows tell, by their ids, of the types that are defined among these instructions, the last first.
abbrev pub Tells : List Bool → Module → Code → Type 0
Tells rows m before = (id : ℕ) → slice_index_or rows id false ≡ has_in (is_runtime m) before id

-- so many instructions at the front of a module, the last first
abbrev pub front : Module → ℕ → Code
front m count = passed [] (take count m.instrs)
