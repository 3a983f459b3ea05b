-- Pointers as the code holds them, and the words of the machine's memory over buffers and variables alone.
use Rattle.std.specs.Prelude.{ℕ, zero, suc, if◌then◌else◌, List, [], ◌∷◌, ◌++◌, ◌≡◌, Bool, true, false, nat_lt, length, set, slice_get, Option, Some, None}
use Rattle.gsl_base.specs.declared.input.Buffer.{Buffer}
use Rattle.gsl_base.specs.declared.input.Input.{Input}
use Rattle.gsl_instr.specs.declared.enumerant.decoration.TheConstants as decoration
use Rattle.gsl_words.specs.declared.module.Module.{Module}
use Rattle.gsl_values.specs.declared.value.Value.{Value}
use Rattle.gsl_tree.specs.Operations.{value_at, with_value_at}
use Rattle.gsl_tree.specs.Values.{components_in, of_components, parts_in}
use Rattle.gsl_valid.specs.Decorations.{number_on}
use Rattle.gsl_valid.specs.Kinds.{shape_of}
use Rattle.gsl_valid.specs.Types.{defined_as}
use Rattle.gsl_views.specs.Buffers.{put_words}
use Rattle.gsl_machine.specs.Memory.{bytes_if, is_push, part_as, parts_as, with_bytes_if, words_at}
use Rattle.gsl_machine.specs.State.{InBlock, InVariable, Outcome, Pointer, Strayed, Stuck, on}
use Rattle.gsl_enact_memory.specs.declared.pointer.Pointer.{Pointer as Held}
use Rattle.gsl_enact_memory.specs.declared.pointer.Pointer.TheVariants as held
use Rattle.gsl_enact_memory.specs.declared.pointer.Reached.{Reached}
use Rattle.gsl_enact_memory.specs.declared.pointer.Reached.TheVariants as reached

abbrev pub pointer_seen : Held → Pointer
pointer_seen (held.InBlock variable offset pointee) = InBlock variable offset pointee
pointer_seen (held.InVariable number path) = InVariable number path

abbrev pub pointer_if_seen : Option Held → Option Pointer
pointer_if_seen None = None
pointer_if_seen (Some p) = Some (pointer_seen p)

-- goes on where something is reached
abbrev pub reaching : Reached → ℕ → (Pointer → Outcome) → Outcome
reaching (reached.To p) place go = go (pointer_seen p)
reaching reached.Strays place go = Strayed place
reaching reached.Nowhere place go = Stuck

-- ---- over buffers and variables

abbrev pub bytes_in : Module → Input → List Buffer → ℕ → Option (List ℕ)
bytes_in m input buffers variable =
    if is_push m variable then input.push else bytes_if buffers (number_on m decoration.DESCRIPTOR_SET variable) (number_on m decoration.BINDING variable)

abbrev pub on_part : Option Held → (Pointer → Outcome) → Outcome
on_part None go = Stuck
on_part (Some p) go = go (pointer_seen p)

-- the part at an index in the bytes of a block, and in a variable
abbrev pub block_part : Module → ℕ → ℕ → ℕ → ℕ → ℕ → (Pointer → Outcome) → List ℕ → Outcome
block_part m place variable offset pointee index go bytes =
    if nat_lt index (parts_as m (length bytes) offset pointee (shape_of (defined_as m pointee)))
    then on (part_as m variable offset pointee index (shape_of (defined_as m pointee))) go
    else Strayed place

abbrev pub variable_part : ℕ → ℕ → List ℕ → ℕ → (Pointer → Outcome) → Value → Outcome
variable_part place number path index go v = if nat_lt index (length (parts_in (value_at v path))) then go (InVariable number (path ++ index ∷ [])) else Strayed place

abbrev pub into_in : Module → Input → List Buffer → List Value → ℕ → Pointer → ℕ → (Pointer → Outcome) → Outcome
into_in m input buffers variables place (InBlock variable offset pointee) index go = on (bytes_in m input buffers variable) (block_part m place variable offset pointee index go)
into_in m input buffers variables place (InVariable number path) index go = on (slice_get variables number) (variable_part place number path index go)

abbrev pub loaded_from : Module → ℕ → ℕ → Option (List ℕ) → Option Value
loaded_from m offset pointee None = None
loaded_from m offset pointee (Some bytes) = Some (of_components (words_at m offset pointee bytes))

abbrev pub part_of_variable : List ℕ → Option Value → Option Value
part_of_variable path None = None
part_of_variable path (Some v) = Some (value_at v path)

-- what is loaded, if there is something
abbrev pub loaded_in : Module → Input → List Buffer → List Value → Pointer → Option Value
loaded_in m input buffers variables (InBlock variable offset pointee) = loaded_from m offset pointee (bytes_in m input buffers variable)
loaded_in m input buffers variables (InVariable number path) = part_of_variable path (slice_get variables number)

-- ---- what is stored, if there is something to store it in

-- the buffers with other bytes in the one behind so many
abbrev pub bytes_changed : List Buffer → ℕ → List ℕ → List Buffer
bytes_changed [] k bytes = []
bytes_changed (buffer ∷ buffers) zero bytes = record buffer { bytes = bytes } ∷ buffers
bytes_changed (buffer ∷ buffers) (suc k) bytes = buffer ∷ bytes_changed buffers k bytes

abbrev pub new_bytes : ℕ → Value → Option (List ℕ) → Option (List ℕ)
new_bytes offset v None = None
new_bytes offset v (Some bytes) = Some (put_words offset (components_in v) bytes)

abbrev pub bytes_stored : Module → List Buffer → ℕ → ℕ → Value → Option (List ℕ) → Option (List Buffer)
bytes_stored m buffers variable offset v None = None
bytes_stored m buffers variable offset v (Some bytes) =
    Some (with_bytes_if buffers (number_on m decoration.DESCRIPTOR_SET variable) (number_on m decoration.BINDING variable) (put_words offset (components_in v) bytes))

abbrev pub block_stored : Module → Input → List Buffer → ℕ → ℕ → Value → Option (List Buffer)
block_stored m input buffers variable offset v = bytes_stored m buffers variable offset v (bytes_in m input buffers variable)

abbrev pub variable_stored : List Value → ℕ → List ℕ → Value → Option Value → Option (List Value)
variable_stored variables number path v None = None
variable_stored variables number path v (Some old) = Some (set variables number (with_value_at old path v))

-- what a call that stores says of what it changed
abbrev pub Stores : {A : Type 0} → Bool → A → Option A → Type 0
Stores true new stored = stored ≡ Some new
Stores false new stored = stored ≡ None

-- ---- counts

abbrev pub count_of : Module → List ℕ → Option Pointer → Option ℕ
count_of m bytes None = None
count_of m bytes (Some (InBlock variable offset pointee)) = Some (parts_as m (length bytes) offset pointee (shape_of (defined_as m pointee)))
count_of m bytes (Some (InVariable number path)) = None

abbrev pub counted_if : Module → ℕ → ℕ → ℕ → ℕ → Option (List ℕ) → Option ℕ
counted_if m variable offset pointee member None = None
counted_if m variable offset pointee member (Some bytes) = count_of m bytes (part_as m variable offset pointee member (shape_of (defined_as m pointee)))

-- the count of elements, if there is one
abbrev pub counted_in : Module → Input → List Buffer → Pointer → ℕ → Option ℕ
counted_in m input buffers (InBlock variable offset pointee) member = counted_if m variable offset pointee member (bytes_in m input buffers variable)
counted_in m input buffers (InVariable number path) member = None
