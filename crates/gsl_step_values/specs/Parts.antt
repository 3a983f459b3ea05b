-- What a machine puts where a part is taken out of a value, or put into one.
use Rattle.std.specs.Prelude.{◌≡◌, ℕ, ◌+◌, ◌++◌, ◌<◌, ◌≤◌, ◌^◌, List, length, map, slice_index, take, drop, Option, Some, None}
use Rattle.std.specs.List.{AllByRecursion, flat_map}
use Rattle.gsl_words.specs.declared.module.Module.{Module}
use Rattle.gsl_valid.specs.Kinds.{shape_of, type_of}
use Rattle.gsl_valid.specs.OperandRules.{part_of_at}
use Rattle.gsl_valid.specs.Types.{defined_as}
use Rattle.gsl_region.specs.Showing.{with_words}
use Rattle.gsl_leaves.specs.Leaves.{ahead, leaves, offset}
use Rattle.gsl_leaves.specs.Table.{most}
use Rattle.gsl_operands.specs.Operands.{stands}
use Rattle.gsl_step.specs.Machine.{Puts}
use Rattle.gsl_step.specs.declared.machine.Machine.{Machine}
use Rattle.gsl_step_values.specs.Values.{from, to, words}

-- of a type, if there is one: that of the part of a number, and how many words stand in front of that
abbrev pub part_of : Module → Option ℕ → ℕ → Option ℕ
part_of m None number = None
part_of m (Some type) number = part_of_at m number (shape_of (defined_as m type))

abbrev pub ahead_of : Module → Option ℕ → ℕ → ℕ
ahead_of m None number = 0
ahead_of m (Some type) number = ahead m type number

-- ---- a part is taken out

-- There is room for so many words, behind as many of an operand that stand behind others of it, and places and numbers are told.
pub record HasRoomForPart (m : Module) (now : Machine) (id composite skipped count : ℕ) : Type 0 where
  pub room : to m now id + count ≤ length now.slots
  pub low : composite < m.bound
  pub behind : from m now composite + skipped + count ≤ to m now id
  pub places : length now.slots ≤ most
  pub number : now.standing.at + 1 < 2 ^ 32

abbrev pub PutsPart : Module → (type id composite : ℕ) (path : List ℕ) → Machine → Machine → Type 0
PutsPart m type id composite path now next =
    (whole : ℕ) → type_of (defined_as m composite) ≡ Some whole → HasRoomForPart m now id composite (offset m (Some whole) path) (leaves m type)
    → Puts now (to m now id) (take (leaves m type) (drop (from m now composite + offset m (Some whole) path) now.slots)) now.choices next

-- ---- a part is put in

-- There is room for the words of a value, behind as many of one operand and so many of another; these are as many as stand in a part of it.
pub record HasRoomToInsert (m : Module) (now : Machine) (id part composite skipped inner count : ℕ) : Type 0 where
  pub room : to m now id + count ≤ length now.slots
  pub low : (composite < m.bound) × (part < m.bound)
  pub behind : (from m now composite + count ≤ to m now id) × (from m now part + inner ≤ to m now id)
  pub inside : skipped + inner ≤ count
  pub places : length now.slots ≤ most
  pub number : now.standing.at + 1 < 2 ^ 32

abbrev pub PutsInside : Module → (type id part composite : ℕ) (path : List ℕ) → Machine → Machine → Type 0
PutsInside m type id part composite path now next =
    (inner : ℕ) → type_of (defined_as m part) ≡ Some inner → HasRoomToInsert m now id part composite (offset m (Some type) path) (leaves m inner) (leaves m type)
    → Puts now (to m now id) (with_words (words m now composite (leaves m type)) (offset m (Some type) path) (words m now part (leaves m inner))) now.choices next

-- ---- values are put together

abbrev pub count_in : Module → Option ℕ → ℕ
count_in m None = 0
count_in m (Some type) = leaves m type

-- the words of an operand, all that its type tells, in a function whose slots begin at a place
abbrev pub words_in : Module → (base : ℕ) → List ℕ → ℕ → List ℕ
words_in m base slots id = take (count_in m (type_of (defined_as m id))) (drop (stands m base id) slots)

-- those of operands in their order
abbrev pub gathered : Module → (base : ℕ) → List ℕ → List ℕ → List ℕ
gathered m base slots ids = flat_map (words_in m base slots) ids

-- An operand stands in front of a place.
abbrev pub IsInFront : Module → (base at id : ℕ) → Type 0
IsInFront m base at id = (id < m.bound) × (stands m base id + count_in m (type_of (defined_as m id)) ≤ at)

-- There is room for the words of operands from a place on, behind all of them, and places are told.
pub record HasRoomToGather (m : Module) (base at : ℕ) (slots ids : List ℕ) : Type 0 where
  pub room : at + length (gathered m base slots ids) ≤ length slots
  pub each : AllByRecursion (IsInFront m base at) ids
  pub places : length slots ≤ most

abbrev pub PutsAll : Module → (id : ℕ) (parts : List ℕ) → Machine → Machine → Type 0
PutsAll m id parts now next =
    HasRoomToGather m now.standing.slots (to m now id) now.slots parts → now.standing.at + 1 < 2 ^ 32 → Puts now (to m now id) (gathered m now.standing.slots now.slots parts) now.choices next

-- ---- components are shuffled

-- There is room for so many words of what an id is given, behind so many of each of two operands, and places and numbers are told.
pub record HasRoomToShuffle (m : Module) (now : Machine) (id a b first second count : ℕ) : Type 0 where
  pub room : to m now id + count ≤ length now.slots
  pub low : (a < m.bound) × (b < m.bound)
  pub behind : (from m now a + first ≤ to m now id) × (from m now b + second ≤ to m now id)
  pub places : length now.slots ≤ most
  pub number : now.standing.at + 1 < 2 ^ 32

abbrev pub PutsShuffled : Module → (id a b : ℕ) (positions : List ℕ) → Machine → Machine → Type 0
PutsShuffled m id a b positions now next =
    (first second : ℕ) → type_of (defined_as m a) ≡ Some first → type_of (defined_as m b) ≡ Some second → HasRoomToShuffle m now id a b (leaves m first) (leaves m second) (length positions)
    → Puts now (to m now id) (map (slice_index (words m now a (leaves m first) ++ words m now b (leaves m second))) positions) now.choices next
