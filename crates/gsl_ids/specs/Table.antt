-- A table of the instructions that define the ids of a module.
use Rattle.std.specs.Prelude.{◌≡◌, ℕ, ◌+◌, ◌-◌, Bool, ◌==◌, ◌&&◌, nat_le, nat_lt, if◌then◌else◌, List, [], ◌∷◌, slice_get, slice_index, Option, Some, None}
use Rattle.gsl_instr.specs.declared.instruction.Instruction.{Instruction}
use Rattle.gsl_words.specs.declared.module.Instr.{Instr}
use Rattle.gsl_words.specs.declared.module.Module.{Module}
use Rattle.gsl_valid.specs.Instruction.{read}
use Rattle.gsl_valid.specs.Placed.{Code}
use Rattle.gsl_valid.specs.Ids.{defines}

-- One more than the number of the first instruction that defines an id, where the code begins with the instruction of
-- this number; 0 where none defines it.
unfoldable pub number_from : ℕ → Code → ℕ → ℕ
number_from at [] id = 0
number_from at (i ∷ code) id = if defines i id then at + 1 else number_from (at + 1) code id

-- the same in a whole module
abbrev pub number_of : Module → ℕ → ℕ
number_of m id = number_from 0 m.instrs id

-- The rows of a table give these numbers, one for each id, for some code that begins with the instruction of this number.
abbrev pub Tells : List ℕ → ℕ → Code → Type 0
Tells rows at code = (id : ℕ) → slice_index rows id ≡ number_from at code id

-- an instruction, if there is one
abbrev pub read_if : Option Instr → Option Instruction
read_if None = None
read_if (Some i) = read i

-- the instruction that a number gives
abbrev pub numbered : Code → ℕ → Option Instruction
numbered code n = if n == 0 then None else read_if (slice_get code (n - 1))

-- whether an id is defined among the first instructions of a module, of which there are this many
abbrev pub is_defined_in : Module → ℕ → ℕ → Bool
is_defined_in m count id = nat_lt 0 (number_of m id) && nat_le (number_of m id) count

-- whether an id is defined from the instruction of a number on, before that of another
abbrev pub is_defined_from : Module → ℕ → ℕ → ℕ → Bool
is_defined_from m first at id = nat_lt first (number_of m id) && nat_le (number_of m id) at
