-- What a machine puts where an instruction gives a value.
use Rattle.std.specs.Prelude.{◌≡◌, ℕ, false, if◌then◌else◌, Some, ◌+◌, ◌<◌, ◌≤◌, ◌^◌, ◌⊎◌, Bool, nat_le, ◌&&◌, ◌||◌, ◌==◌, List, [], ◌∷◌, length, map, take, drop}
use Rattle.std.specs.List.{AllByRecursion, list_all, list_any}
use Rattle.gsl_instr.specs.declared.op.TheConstants as op
use Rattle.gsl_words.specs.declared.module.Module.{Module}
use Rattle.gsl_values.specs.Vectors.{binary_each}
use Rattle.gsl_values.specs.Operators.{unary_word}
use Rattle.gsl_values.specs.Word.{word_of_bool}
use Rattle.gsl_values.specs.declared.function.Builtin.{Builtin}
use Rattle.gsl_values.specs.declared.function.Builtin.TheVariants as f
use Rattle.gsl_values.specs.declared.op.UnaryOp.TheVariants as u
use Rattle.gsl_tree.specs.Operations.{builtin_each, is_true}
use Rattle.gsl_valid.specs.Kinds.{type_of}
use Rattle.gsl_valid.specs.Types.{defined_as}
use Rattle.gsl_machine.specs.Operations.{Operator}
use Rattle.gsl_leaves.specs.Leaves.{leaves}
use Rattle.gsl_leaves.specs.Table.{most}
use Rattle.gsl_frames.specs.Frames.{place}
use Rattle.gsl_lanes.specs.declared.functions.Operand.{Operand}
use Rattle.gsl_operands.specs.Operands.{stands}
use Rattle.gsl_step.specs.Machine.{Puts}
use Rattle.gsl_step.specs.declared.machine.Machine.{Machine}

-- where the words of an operand begin, and of what an id is given
abbrev pub from : Module → Machine → ℕ → ℕ
from m now id = stands m now.standing.slots id

abbrev pub to : Module → Machine → ℕ → ℕ
to m now id = now.standing.slots + place m id

-- so many words of an operand
abbrev pub words : Module → Machine → ℕ → ℕ → List ℕ
words m now id count = take count (drop (from m now id) now.slots)

-- There is room for so many words of what an id is given, behind all so many of each operand, and places and numbers are told.
pub record HasRoom (m : Module) (now : Machine) (id count : ℕ) (operands : List ℕ) : Type 0 where
  pub room : to m now id + count ≤ length now.slots
  pub behind : AllByRecursion (λ operand. (operand < m.bound) × (from m now operand + count ≤ to m now id)) operands
  pub places : length now.slots ≤ most
  pub number : now.standing.at + 1 < 2 ^ 32

-- An operator is put on two values: on their words, the lowest first.
abbrev pub PutsTwo : Module → Operator → (type id a b : ℕ) → Machine → Machine → Type 0
PutsTwo m operator type id a b now next =
    HasRoom m now id (leaves m type) (a ∷ b ∷ [])
    → Puts now (to m now id) (binary_each operator.0 operator.1 (words m now a (leaves m type)) (words m now b (leaves m type)) now.choices).0
    (binary_each operator.0 operator.1 (words m now a (leaves m type)) (words m now b (leaves m type)) now.choices).1 next

-- ---- operations on one value

-- the words that an operation gives of so many words that joins none
unfoldable pub unary_words : ℕ → ℕ → List ℕ → List ℕ
unary_words code count words =
    if code == op.S_NEGATE then map (unary_word u.Negate) words else if code == op.NOT then map (unary_word u.Flip) words else if code == op.LOGICAL_NOT then map (unary_word u.Not) words
    else if code == op.BIT_REVERSE then (builtin_each f.BitfieldReverse false (words ∷ []) count 0 []).0 else if code == op.BIT_COUNT then (builtin_each f.BitCount false (words ∷ []) count 0 []).0
    else words

abbrev pub PutsEach : Module → (code type id a : ℕ) → Machine → Machine → Type 0
PutsEach m code type id a now next = HasRoom m now id (leaves m type) (a ∷ []) → Puts now (to m now id) (unary_words code (leaves m type) (words m now a (leaves m type))) now.choices next

-- Any and All join the components of a vector
abbrev pub joins : ℕ → Bool
joins code = code == op.ANY || code == op.ALL

abbrev pub joined_word : ℕ → List ℕ → ℕ
joined_word code words = if code == op.ANY then word_of_bool (list_any is_true words) else word_of_bool (list_all is_true words)

-- There is room for one word, behind so many of an operand, and places and numbers are told.
pub record HasRoomToJoin (m : Module) (now : Machine) (id a count : ℕ) : Type 0 where
  pub room : to m now id + 1 ≤ length now.slots
  pub low : a < m.bound
  pub behind : from m now a + count ≤ to m now id
  pub places : length now.slots ≤ most
  pub number : now.standing.at + 1 < 2 ^ 32

abbrev pub PutsJoined : Module → (code id a : ℕ) → Machine → Machine → Type 0
PutsJoined m code id a now next =
    (type : ℕ) → type_of (defined_as m a) ≡ Some type → HasRoomToJoin m now id a (leaves m type) → Puts now (to m now id) (joined_word code (words m now a (leaves m type)) ∷ []) now.choices next

-- ---- built-in functions

-- an operand by its id, and how many words it has
abbrev pub Part : Type 0
Part = ℕ × ℕ

abbrev pub operand : Module → Machine → Part → Operand
operand m now part = record { place = from m now part.0; count = part.1 }

-- the words of operands
abbrev pub all_words : Module → Machine → List Part → List (List ℕ)
all_words m now parts = map (λ part. words m now part.0 part.1) parts

-- An operand stands in front of a place, and has so many components, or one that serves for each.
abbrev pub Stands : Operand → (at count : ℕ) → Type 0
Stands o at count = (o.place + o.count ≤ at) × ((o.count ≡ 1) ⊎ (o.count ≡ count))

-- the same as a test
abbrev pub serves : (at count : ℕ) → Operand → Bool
serves at count o = nat_le (o.place + o.count) at && (o.count == 1 || o.count == count)

abbrev pub Serves : Module → Machine → (id count : ℕ) → Part → Type 0
Serves m now id count part = (part.0 < m.bound) × Stands (operand m now part) (to m now id) count

-- There is room for so many words of what an id is given, each operand serves for it, and places and numbers are told.
pub record HasRoomFor (m : Module) (now : Machine) (id count : ℕ) (parts : List Part) : Type 0 where
  pub room : to m now id + count ≤ length now.slots
  pub serve : AllByRecursion (Serves m now id count) parts
  pub places : length now.slots ≤ most
  pub number : now.standing.at + 1 < 2 ^ 32

-- What a built-in function gives on operands is put, the lowest component first, where choices are drawn; or none are.
abbrev pub PutsGiven : Module → Builtin → Bool → (type id : ℕ) → List Part → Machine → Machine → Type 0
PutsGiven m which signed type id parts now next =
    HasRoomFor m now id (leaves m type) parts
    → Puts now (to m now id) (builtin_each which signed (all_words m now parts) (leaves m type) 0 now.choices).0 (builtin_each which signed (all_words m now parts) (leaves m type) 0 now.choices).1 next

abbrev pub PutsPlain : Module → Builtin → Bool → (type id : ℕ) → List Part → Machine → Machine → Type 0
PutsPlain m which signed type id parts now next =
    HasRoomFor m now id (leaves m type) parts → Puts now (to m now id) (builtin_each which signed (all_words m now parts) (leaves m type) 0 []).0 now.choices next
