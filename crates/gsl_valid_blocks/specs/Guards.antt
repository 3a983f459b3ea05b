-- A table of the chains that lead through members with a decoration.
use Rattle.std.specs.Prelude.{ℕ, ◌-◌, ◌==◌, Bool, false, if◌then◌else◌, List, [], ◌∷◌, map, slice_index_or}
use Rattle.gsl_words.specs.declared.module.Module.{Module}
use Rattle.gsl_valid.specs.Instruction.{read}
use Rattle.gsl_valid.specs.Placed.{Code, Placed}
use Rattle.gsl_valid.specs.MemoryRules.{leads_through}

-- whether each instruction is such a chain
abbrev pub rows_of : Module → ℕ → Code → List Bool
rows_of m kind code = map (λ i. leads_through m kind (read i)) code

-- the same of instructions at their places
unfoldable pub rows_from : Module → ℕ → List Placed → List Bool
rows_from m kind [] = []
rows_from m kind (p ∷ placed) = leads_through m kind (read p.instr) ∷ rows_from m kind placed

-- what the row before a number says, if there is one
abbrev pub row : List Bool → ℕ → Bool
row rows number = if number == 0 then false else slice_index_or rows (number - 1) false
