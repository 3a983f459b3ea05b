-- The ids that instructions define and use (SPIR-V 1.0, 2.16).
use Rattle.std.specs.Prelude.{ℕ, Bool, false, ◌==◌, List, [], ◌∷◌, Option, Some, None, if◌then◌else◌}
use Rattle.std.specs.List.{list_any}
use Rattle.gsl_instr.specs.declared.instruction.Instruction.{Instruction}
use Rattle.gsl_instr.specs.Instructions as table
use Rattle.gsl_words.specs.declared.module.Instr.{Instr}
use Rattle.gsl_valid.specs.Instruction.{read}
use Rattle.gsl_valid.specs.Placed.{Code}

-- the id that an instruction defines
abbrev pub result : Option Instruction → Option ℕ
result None = None
result (Some i) = table.result_of i

-- the ids that it uses and that stand before it
abbrev pub needs : Option Instruction → List ℕ
needs None = []
needs (Some i) = table.needs i

-- the ids that it uses and that may come later
abbrev pub mentions : Option Instruction → List ℕ
mentions None = []
mentions (Some i) = table.mentions i

-- whether there is an id, and it is this
abbrev pub is_id : ℕ → Option ℕ → Bool
is_id id None = false
is_id id (Some r) = r == id

-- whether an instruction defines an id
abbrev pub defines : Instr → ℕ → Bool
defines i id = is_id id (result (read i))

-- whether some code does
abbrev pub defined : Code → ℕ → Bool
defined code id = list_any (λ i. defines i id) code

-- the instruction that defines an id, if there is one
abbrev pub definition : Code → ℕ → Option Instruction
definition [] id = None
definition (i ∷ code) id = if defines i id then read i else definition code id
