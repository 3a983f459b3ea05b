-- Pointers: where chains of indexes lead, what is loaded and what is stored (SPIR-V 1.0, 3.32.8). In the bytes of a block it is found by the
-- decorations Offset and ArrayStride alone.
use Rattle.std.specs.Prelude.{ℕ, ◌+◌, ◌-◌, ◌*◌, ◌/◌, Bool, nat_lt, if◌then◌else◌, List, [], ◌∷◌, ◌++◌, map, set, length, slice_index, slice_get, Option, Some, None}
use Rattle.std.specs.List.{range_with_len}
use Rattle.gsl_base.specs.declared.input.Buffer.{Buffer}
use Rattle.gsl_base.specs.declared.input.Input.{Input}
use Rattle.gsl_instr.specs.declared.enumerant.decoration.TheConstants as decoration
use Rattle.gsl_instr.specs.declared.enumerant.storage_class.TheConstants as storage_class
use Rattle.gsl_views.specs.Buffers.{bytes_at, put_words, with_bytes}
use Rattle.gsl_words.specs.Words.{word_at}
use Rattle.gsl_words.specs.declared.module.Module.{Module}
use Rattle.gsl_values.specs.declared.value.Value.{Value}
use Rattle.gsl_tree.specs.Operations.{value_at, with_value_at}
use Rattle.gsl_tree.specs.Values.{components_in, of_components, parts_in, word_in}
use Rattle.gsl_valid.specs.Decorations.{number_on, number_on_member}
use Rattle.gsl_valid.specs.Kinds.{Shape, OfVoid, OfBool, OfInt, OfVector, OfArray, OfRuntimeArray, OfStruct, OfPointer, OfFunction, NoType, shape_of, variable_is}
use Rattle.gsl_valid.specs.Types.{Lanes, defined_as, is_variable_of, lanes_of}
use Rattle.gsl_machine.specs.Constants.{length_by}
use Rattle.gsl_machine.specs.State.{InBlock, InVariable, Outcome, Pointer, State, Strayed, Stuck, on, on_whole}

-- ---- the bytes of blocks

abbrev pub bytes_if : List Buffer → Option ℕ → Option ℕ → Option (List ℕ)
bytes_if buffers None binding = None
bytes_if buffers (Some set) None = None
bytes_if buffers (Some set) (Some binding) = bytes_at buffers set binding

abbrev pub is_push : Module → ℕ → Bool
is_push m variable = is_variable_of storage_class.PUSH_CONSTANT (variable_is (defined_as m variable))

-- the bytes of a block's variable: those of the push constants, or of the buffer at its set and binding
abbrev pub bytes_of : Module → Input → State → ℕ → Option (List ℕ)
bytes_of m input state variable =
    if is_push m variable then input.push else bytes_if state.buffers (number_on m decoration.DESCRIPTOR_SET variable) (number_on m decoration.BINDING variable)

abbrev pub with_bytes_if : List Buffer → Option ℕ → Option ℕ → List ℕ → List Buffer
with_bytes_if buffers None binding bytes = buffers
with_bytes_if buffers (Some set) None bytes = buffers
with_bytes_if buffers (Some set) (Some binding) bytes = with_bytes buffers set binding bytes

-- ---- chains

-- how many whole strides stand behind an offset
abbrev pub strides_in : ℕ → ℕ → Option ℕ → ℕ
strides_in size offset None = 0
strides_in size offset (Some stride) = (size - offset) / stride

-- how many parts a type has at an offset in so many bytes
abbrev pub parts_as : Module → ℕ → ℕ → ℕ → Shape → ℕ
parts_as m size offset type OfVoid = 0
parts_as m size offset type OfBool = 0
parts_as m size offset type (OfInt signedness) = 0
parts_as m size offset type (OfVector component count) = count
parts_as m size offset type (OfArray element length) = length_by m length
parts_as m size offset type (OfRuntimeArray element) = strides_in size offset (number_on m decoration.ARRAY_STRIDE type)
parts_as m size offset type (OfStruct id members) = length members
parts_as m size offset type (OfPointer class pointee) = 0
parts_as m size offset type (OfFunction returned parameters) = 0
parts_as m size offset type NoType = 0

abbrev pub at_offset : ℕ → ℕ → Option ℕ → ℕ → Option Pointer
at_offset variable offset None pointee = None
at_offset variable offset (Some more) pointee = Some (InBlock variable (offset + more) pointee)

abbrev pub at_stride : ℕ → ℕ → Option ℕ → ℕ → ℕ → Option Pointer
at_stride variable offset None index pointee = None
at_stride variable offset (Some stride) index pointee = Some (InBlock variable (offset + stride * index) pointee)

-- the part of a type at an index that is below the count
abbrev pub part_as : Module → ℕ → ℕ → ℕ → ℕ → Shape → Option Pointer
part_as m variable offset type index OfVoid = None
part_as m variable offset type index OfBool = None
part_as m variable offset type index (OfInt signedness) = None
part_as m variable offset type index (OfVector component count) = Some (InBlock variable (offset + 4 * index) component)
part_as m variable offset type index (OfArray element length) = at_stride variable offset (number_on m decoration.ARRAY_STRIDE type) index element
part_as m variable offset type index (OfRuntimeArray element) = at_stride variable offset (number_on m decoration.ARRAY_STRIDE type) index element
part_as m variable offset type index (OfStruct id members) = at_offset variable offset (number_on_member m decoration.OFFSET type index) (slice_index members index)
part_as m variable offset type index (OfPointer class pointee) = None
part_as m variable offset type index (OfFunction returned parameters) = None
part_as m variable offset type index NoType = None

module _ (m : Module) (input : Input) (place : ℕ) where
  -- the part at an index: one that is not below the count strays
  abbrev pub into_block : ℕ → ℕ → ℕ → ℕ → (Pointer → Outcome) → List ℕ → Outcome
  into_block variable offset pointee index go bytes =
      if nat_lt index (parts_as m (length bytes) offset pointee (shape_of (defined_as m pointee)))
      then on (part_as m variable offset pointee index (shape_of (defined_as m pointee))) go
      else Strayed place

  abbrev pub into_variable : ℕ → List ℕ → ℕ → (Pointer → Outcome) → Value → Outcome
  into_variable number path index go v = if nat_lt index (length (parts_in (value_at v path))) then go (InVariable number (path ++ index ∷ [])) else Strayed place

  abbrev pub into : State → Pointer → ℕ → (Pointer → Outcome) → Outcome
  into state (InBlock variable offset pointee) index go = on (bytes_of m input state variable) (into_block variable offset pointee index go)
  into state (InVariable number path) index go = on (slice_get state.variables number) (into_variable number path index go)

  -- what a chain of indexes leads to
  abbrev pub along : State → Pointer → List ℕ → (Pointer → Outcome) → Outcome
  along state from [] go = go from
  along state from (index ∷ indexes) go = on_whole (state.ids index) (λ v. into state from (word_in v) (λ to. along state to indexes go))

-- ---- loads and stores

abbrev pub size_of : Option Lanes → ℕ
size_of None = 0
size_of (Some lanes) = lanes.size

-- the words of the components of a type, one behind the other
abbrev pub words_at : Module → ℕ → ℕ → List ℕ → List ℕ
words_at m offset pointee bytes = map (λ k. word_at bytes (offset + 4 * k)) (range_with_len 0 (size_of (lanes_of m pointee)))

-- what is loaded
abbrev pub loading : Module → Input → State → Pointer → (Value → Outcome) → Outcome
loading m input state (InBlock variable offset pointee) go = on (bytes_of m input state variable) (λ bytes. go (of_components (words_at m offset pointee bytes)))
loading m input state (InVariable number path) go = on (slice_get state.variables number) (λ v. go (value_at v path))

abbrev pub with_variable : State → ℕ → Value → State
with_variable state number v = record state { variables = set state.variables number v }

abbrev pub with_block : Module → State → ℕ → List ℕ → State
with_block m state variable bytes =
    record state { buffers = with_bytes_if state.buffers (number_on m decoration.DESCRIPTOR_SET variable) (number_on m decoration.BINDING variable) bytes }

-- the state with a value stored
abbrev pub storing : Module → Input → State → Pointer → Value → (State → Outcome) → Outcome
storing m input state (InBlock variable offset pointee) v go =
    on (bytes_of m input state variable) (λ bytes. go (with_block m state variable (put_words offset (components_in v) bytes)))
storing m input state (InVariable number path) v go = on (slice_get state.variables number) (λ old. go (with_variable state number (with_value_at old path v)))

-- the count of elements of the array without length that is a member of a block
abbrev pub counting : Module → Input → State → Pointer → ℕ → (ℕ → Outcome) → Outcome
counting m input state (InBlock variable offset pointee) member go =
    on (bytes_of m input state variable) (λ bytes. on (part_as m variable offset pointee member (shape_of (defined_as m pointee))) (count_at bytes go))
  where
    count_at : List ℕ → (ℕ → Outcome) → Pointer → Outcome
    count_at bytes go (InBlock variable offset pointee) = go (parts_as m (length bytes) offset pointee (shape_of (defined_as m pointee)))
    count_at bytes go (InVariable number path) = Stuck
counting m input state (InVariable number path) member go = Stuck
