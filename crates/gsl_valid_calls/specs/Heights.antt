-- A table of the heights of types, which tells no heights apart that are beyond the limit.
use Rattle.std.specs.Prelude.{ℕ, ◌+◌, Bool, nat_lt, List, min, map, slice_index, slice_set, Option, Some, None}
use Rattle.gsl_words.specs.declared.module.Instr.{Instr}
use Rattle.gsl_valid.specs.Instruction.{read}
use Rattle.gsl_valid.specs.Ids.{result}
use Rattle.gsl_valid.specs.LimitRules.{most_height}
use Rattle.gsl_valid.specs.Types.{highest, parts_of}

-- the height that is told of a type of these parts
abbrev pub height_over : List ℕ → List ℕ → ℕ
height_over heights parts = min 66 (1 + highest (map (slice_index heights) parts))

-- the table with one more height, if there is an id
abbrev pub with_height : List ℕ → Option ℕ → ℕ → List ℕ
with_height heights None height = heights
with_height heights (Some id) height = slice_set heights id height

-- the table behind an instruction
abbrev pub heights_after : List ℕ → Instr → List ℕ
heights_after heights i = with_height heights (result (read i)) (height_over heights (parts_of (read i)))

-- whether a type of these parts is no higher than the highest that may be
abbrev pub is_low : List ℕ → List ℕ → Bool
is_low heights parts = nat_lt (highest (map (slice_index heights) parts)) most_height
