-- A table of how many words the values of types have, as far as it is told.
use Rattle.std.specs.Prelude.{◌≡◌, ℕ, ◌-◌, ◌^◌, List, min, slice_index}
use Rattle.gsl_words.specs.declared.module.Module.{Module}
use Rattle.gsl_valid.specs.Placed.{Code}
use Rattle.gsl_leaves.specs.Leaves.{leaves_in}

-- No count of words is told beyond this: in bytes, four each, it is below 2^63.
abbrev pub most : ℕ
most = 2 ^ 61 - 1

-- a count as it is told
unfoldable pub told : ℕ → ℕ
told count = min count most

-- The rows tell, by their ids, of the types that are defined among these instructions, the last first.
abbrev pub Tells : List ℕ → Module → Code → Type 0
Tells rows m before = (id : ℕ) → slice_index rows id ≡ told (leaves_in m before id)
