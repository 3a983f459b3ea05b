-- Where indexes lead, and what a machine puts there.
use Rattle.std.specs.Prelude.{◌≡◌, ℕ, ◌+◌, ◌<◌, ◌≤◌, ◌^◌, true, if◌then◌else◌, min, nat_lt, List, [], ◌∷◌, length, slice_index, Option, Some, None}
use Rattle.gsl_words.specs.declared.module.Module.{Module}
use Rattle.gsl_valid.specs.Kinds.{shape_of}
use Rattle.gsl_valid.specs.Types.{Target, defined_as}
use Rattle.gsl_leaves.specs.Leaves.{parts_as}
use Rattle.gsl_leaves.specs.Table.{most, told}
use Rattle.gsl_frames.specs.Frames.{place}
use Rattle.gsl_operands.specs.Operands.{stands}
use Rattle.gsl_shown.specs.Shown.{two_words}
use Rattle.gsl_step.specs.Machine.{Puts}
use Rattle.gsl_step.specs.declared.machine.Machine.{Machine}
use Rattle.gsl_step_values.specs.Parts.{ahead_of, part_of}

-- how many parts a type has, if there is one
abbrev pub parts_if : Module → Option ℕ → ℕ
parts_if m None = 0
parts_if m (Some type) = parts_as m (shape_of (defined_as m type))

-- ---- components

-- There is room for a word of what an id is given, an operand has a word of a number, and places and numbers are told.
pub record HasRoomToPick (m : Module) (now : Machine) (id vector number : ℕ) : Type 0 where
  pub room : now.standing.slots + place m id + 1 ≤ length now.slots
  pub low : vector < m.bound
  pub within : stands m now.standing.slots vector + number < length now.slots
  pub places : length now.slots ≤ most
  pub number_fits : now.standing.at + 1 < 2 ^ 32

abbrev pub PutsPicked : Module → (id vector number : ℕ) → Machine → Machine → Type 0
PutsPicked m id vector number now next =
    HasRoomToPick m now id vector number → Puts now (now.standing.slots + place m id) (slice_index now.slots (stands m now.standing.slots vector + number) ∷ []) now.choices next

-- ---- chains

-- the word of an index
abbrev pub word_of : Module → Machine → ℕ → ℕ
word_of m machine index = slice_index machine.slots (stands m machine.standing.slots index)

-- where the part of a number begins, as far as it is told
abbrev pub further : Module → Option ℕ → ℕ → ℕ → ℕ
further m type at number = min (at + told (ahead_of m type number)) 18446744073709551615

-- the place to which indexes lead from that of a part of a type; none where an index is not below the count of parts
abbrev pub along : Module → Machine → Option ℕ → ℕ → List ℕ → Option ℕ
along m machine type at [] = Some at
along m machine type at (index ∷ indexes) =
    if nat_lt (word_of m machine index) (parts_if m type) then along m machine (part_of m type (word_of m machine index)) (further m type at (word_of m machine index)) indexes else None

-- An index stands among the slots, and so do those behind it where it is below the count.
abbrev pub IsToldAlong : Module → Machine → Option ℕ → ℕ → List ℕ → Type 0
IsToldAlong m machine type at [] = Unit {0}
IsToldAlong m machine type at (index ∷ indexes) =
    (index < m.bound) × (stands m machine.standing.slots index ≤ most) × (stands m machine.standing.slots index < length machine.slots)
    × (nat_lt (word_of m machine index) (parts_if m type) ≡ true → IsToldAlong m machine (part_of m type (word_of m machine index)) (further m type at (word_of m machine index)) indexes)

-- what a pointer type points to, or 0
abbrev pub pointee_if : Option Target → ℕ
pointee_if None = 0
pointee_if (Some target) = target.pointee

-- There is room for the words of a pointer that an id is given, and places and numbers are told.
pub record HasRoomToPoint (m : Module) (now : Machine) (id : ℕ) : Type 0 where
  pub room : now.standing.slots + place m id + 3 ≤ length now.slots
  pub places : length now.slots ≤ most
  pub number : now.standing.at + 1 < 2 ^ 32

abbrev pub PutsPointer : Module → (id at : ℕ) → Machine → Machine → Type 0
PutsPointer m id at now next = HasRoomToPoint m now id → Puts now (now.standing.slots + place m id) (0 ∷ two_words at) now.choices next
