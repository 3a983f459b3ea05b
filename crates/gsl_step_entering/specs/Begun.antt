-- The words of what the variables of functions begin as.
use Rattle.std.specs.Prelude.{◌≡◌, ℕ, ◌+◌, ◌<◌, ◌≤◌, ◌^◌, List, [], ◌∷◌, ◌++◌, length, take, drop, Option, Some, None}
use Rattle.std.specs.List.{AllByRecursion}
use Rattle.gsl_words.specs.declared.module.Module.{Module}
use Rattle.gsl_valid.specs.Instruction.{read}
use Rattle.gsl_valid.specs.Kinds.{Variable, type_of, variable_is}
use Rattle.gsl_valid.specs.Placed.{Placed}
use Rattle.gsl_valid.specs.Types.{defined_as}
use Rattle.gsl_region.specs.Showing.{with_words}
use Rattle.gsl_leaves.specs.Table.{most}
use Rattle.gsl_frames.specs.Frames as frames
use Rattle.gsl_operands.specs.Operands.{stands}
use Rattle.gsl_positions.specs.Positions.{left}
use Rattle.gsl_step_memory.specs.Moved.{first_of}
use Rattle.gsl_step_values.specs.Parts.{count_in}

-- where a function goes on behind an instruction of an opcode
abbrev pub next_at : ℕ → ℕ → ℕ → ℕ
next_at = frames.next_at

-- the words of the initialiser of a variable, if there is one, which are those of a constant
abbrev pub initial_of : Module → List ℕ → Option Variable → List ℕ
initial_of m slots None = []
initial_of m slots (Some v) = take (count_in m (type_of (defined_as m (first_of v.initialiser)))) (drop (stands m 0 (first_of v.initialiser)) slots)

-- the initialiser of a variable, if there is one
abbrev pub initial_id : Option Variable → Option ℕ
initial_id None = None
initial_id (Some v) = Some (first_of v.initialiser)

-- those of the variables of a function, in their order
abbrev pub initial_in : Module → List ℕ → List Placed → List ℕ
initial_in m slots [] = []
initial_in m slots (p ∷ code) = initial_of m slots (variable_is (read p.instr)) ++ initial_in m slots code

-- They stand among the slots.
abbrev pub IsToldOf : Module → List ℕ → Option Variable → Type 0
IsToldOf m slots None = Unit {0}
IsToldOf m slots (Some v) = (first_of v.initialiser < m.bound) × (stands m 0 (first_of v.initialiser) + count_in m (type_of (defined_as m (first_of v.initialiser))) ≤ length slots)

abbrev pub AreTold : Module → List ℕ → List Placed → Type 0
AreTold m slots code = AllByRecursion (λ p. IsToldOf m slots (variable_is (read p.instr))) code

-- They are put to a place, where they are told to end.
abbrev pub PutsInitial : Module → List ℕ → Option Variable → (at : ℕ) → List ℕ → List ℕ → ℕ → Type 0
PutsInitial m slots v at now next end =
    IsToldOf m slots v → length slots ≤ most → length now ≤ most → at + length (initial_of m slots v) ≤ length now → (next ≡ with_words now at (initial_of m slots v)) × (end ≡ at + length (initial_of m slots v))

-- There is room for all of them, and places and numbers are told.
pub record HasRoomToBegin (m : Module) (slots words : List ℕ) (at : ℕ) (code : List Placed) : Type 0 where
  pub room : at + length (initial_in m slots code) ≤ length words
  pub each : AreTold m slots code
  pub places : length slots ≤ most
  pub reach : length words ≤ most
  pub few : length m.instrs < 2 ^ 32

abbrev pub PutsAllInitial : Module → List ℕ → (body begin : ℕ) → List ℕ → List ℕ → Type 0
PutsAllInitial m slots body begin now next = HasRoomToBegin m slots now begin (left m body) → next ≡ with_words now begin (initial_in m slots (left m body))
