-- Whether a value has the shape of a type of a module: a word for a scalar, and for all else a value of its type for each component,
-- element or member.
use Rattle.std.specs.Prelude.{◌≡◌, Some, ℕ, Bool, true, false, if◌then◌else◌, List, [], ◌∷◌, map, replicate}
use Rattle.gsl_words.specs.declared.module.Module.{Module}
use Rattle.gsl_values.specs.declared.value.Value.{Value}
use Rattle.gsl_values.specs.declared.value.Value.TheOpen.{Value-F}
use Rattle.gsl_values.specs.declared.value.Value.TheViews.{out-Value}
use Rattle.gsl_tree.specs.Values.{has_parts}
use Rattle.gsl_valid.specs.Ids.{defines}
use Rattle.gsl_valid.specs.Instruction.{read}
use Rattle.gsl_valid.specs.Kinds.{Shape, OfVoid, OfBool, OfInt, OfVector, OfArray, OfRuntimeArray, OfStruct, OfPointer, OfFunction, NoType, shape_of, type_of}
use Rattle.gsl_valid.specs.Placed.{Code}
use Rattle.gsl_valid.specs.Search.{whole}
use Rattle.gsl_valid.specs.Types.{defined_as}
use Rattle.gsl_machine.specs.Constants.{length_by}

abbrev pub is_word_layer : Value-F Value → Bool
is_word_layer (Value-F.Word word) = true
is_word_layer (Value-F.Many parts) = false

-- whether a value is a word
abbrev pub is_word : Value → Bool
is_word v = is_word_layer (out-Value v)

-- whether it has a shape, by what its parts must have
abbrev pub shaped_as : Module → (ℕ → Value → Bool) → Shape → Value → Bool
shaped_as m shaped OfVoid v = false
shaped_as m shaped OfBool v = is_word v
shaped_as m shaped (OfInt signedness) v = is_word v
shaped_as m shaped (OfVector component count) v = has_parts (replicate count (shaped component)) v
shaped_as m shaped (OfArray element length) v = has_parts (replicate (length_by m length) (shaped element)) v
shaped_as m shaped (OfRuntimeArray element) v = false
shaped_as m shaped (OfStruct id members) v = has_parts (map shaped members) v
shaped_as m shaped (OfPointer class pointee) v = false
shaped_as m shaped (OfFunction returned parameters) v = false
shaped_as m shaped NoType v = false

-- whether it has the shape of a type whose definition is among these instructions, the last first
abbrev pub shaped_in : Module → Code → ℕ → Value → Bool
shaped_in m [] type v = false
shaped_in m (i ∷ before) type v = if defines i type then shaped_as m (shaped_in m before) (shape_of (read i)) v else shaped_in m before type v

-- whether it has the shape of a type
abbrev pub is_shaped : Module → ℕ → Value → Bool
is_shaped m type v = shaped_in m (whole m) type v

-- Each of these values has the shape of the type of its id.
abbrev pub HaveShapes : Module → List ℕ → List Value → Type 0
HaveShapes m [] [] = Unit {0}
HaveShapes m [] (v ∷ vs) = ⊥
HaveShapes m (id ∷ ids) [] = ⊥
HaveShapes m (id ∷ ids) (v ∷ vs) = ((type : ℕ) → type_of (defined_as m id) ≡ Some type → is_shaped m type v ≡ true) × HaveShapes m ids vs
