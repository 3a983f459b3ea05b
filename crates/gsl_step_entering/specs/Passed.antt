-- The words of what functions are given, among the slots.
use Rattle.std.specs.Prelude.{◌≡◌, ℕ, ◌+◌, ◌<◌, ◌≤◌, List, ◌∷◌, length, take, drop, Option, Some, None}
use Rattle.std.specs.List.{AllByRecursion, flat_map}
use Rattle.gsl_words.specs.declared.module.Module.{Module}
use Rattle.gsl_valid.specs.Kinds.{Variable, type_of, variable_is}
use Rattle.gsl_valid.specs.Types.{defined_as}
use Rattle.gsl_region.specs.Showing.{with_words}
use Rattle.gsl_leaves.specs.Table.{most}
use Rattle.gsl_frames.specs.Frames.{held_words, place}
use Rattle.gsl_operands.specs.Operands.{stands}
use Rattle.gsl_shown.specs.Shown.{two_words}
use Rattle.gsl_step.specs.declared.machine.Machine.{Machine}
use Rattle.gsl_step.specs.declared.standing.Standing.{Standing}
use Rattle.gsl_step_memory.specs.Pointers.{begin_of}

-- how many words what an id stands for has, by its type
abbrev pub count_if : Module → Option ℕ → ℕ
count_if m None = 0
count_if m (Some type) = held_words m type

abbrev pub count_of : Module → ℕ → ℕ
count_of m id = count_if m (type_of (defined_as m id))

-- the words of an argument: of a variable those of a pointer to it, and of any other what the slots have
abbrev pub argument_as : Module → Standing → List ℕ → ℕ → Option Variable → List ℕ
argument_as m f slots id None = take (count_of m id) (drop (stands m f.slots id) slots)
argument_as m f slots id (Some v) = 0 ∷ two_words (begin_of v.class f.variables + place m id)

abbrev pub argument : Module → Standing → List ℕ → ℕ → List ℕ
argument m f slots id = argument_as m f slots id (variable_is (defined_as m id))

-- An argument stands in front of a place, or is a variable whose place is told.
abbrev pub IsArgumentAs : Module → Standing → (base id : ℕ) → Option Variable → Type 0
IsArgumentAs m f base id None = (id < m.bound) × (stands m f.slots id + count_of m id ≤ base)
IsArgumentAs m f base id (Some v) = begin_of v.class f.variables + place m id ≤ most

abbrev pub IsArgument : Module → Standing → (base id : ℕ) → Type 0
IsArgument m f base id = IsArgumentAs m f base id (variable_is (defined_as m id))

-- the machine with words put at a place among its slots
abbrev pub with_slots : Machine → ℕ → List ℕ → Machine
with_slots now at words = record now { slots = with_words now.slots at words }

-- The words of an argument are put to a place behind it, where they are told to end.
abbrev pub Passes : Module → (id at : ℕ) → Machine → Machine → ℕ → Type 0
Passes m id at now next end =
    IsArgument m now.standing at id → length now.slots ≤ most → at + length (argument m now.standing now.slots id) ≤ length now.slots
    → (next ≡ with_slots now at (argument m now.standing now.slots id)) × (end ≡ at + length (argument m now.standing now.slots id))

-- There is room for the words of arguments from a place on, behind all of them, and places are told.
pub record HasRoomToPass (m : Module) (f : Standing) (slots ids : List ℕ) (base : ℕ) : Type 0 where
  pub room : base + length (flat_map (argument m f slots) ids) ≤ length slots
  pub each : AllByRecursion (IsArgument m f base) ids
  pub places : length slots ≤ most

abbrev pub PassesAll : Module → List ℕ → ℕ → Machine → Machine → Type 0
PassesAll m ids base now next = HasRoomToPass m now.standing now.slots ids base → next ≡ with_slots now base (flat_map (argument m now.standing now.slots) ids)
