-- The words over buffers and variables alone are those of the machine.
use Rattle.std.proofs.Common.{◌≡◌, refl, ℕ, List, Option, Some, None}
use Rattle.gsl_base.specs.declared.input.Input.{Input}
use Rattle.gsl_values.specs.declared.value.Value.{Value}
use Rattle.gsl_words.specs.declared.module.Module.{Module}
use Rattle.gsl_tree.specs.Operations.{value_at, with_value_at}
use Rattle.gsl_tree.specs.Values.{components_in, of_components}
use Rattle.gsl_valid.specs.Kinds.{shape_of}
use Rattle.gsl_valid.specs.Types.{defined_as}
use Rattle.gsl_views.specs.Buffers.{put_words}
use Rattle.std.specs.Prelude.{length, slice_get}
use Rattle.gsl_machine.specs.Memory.{counting, into, loading, part_as, parts_as, storing, with_block, with_variable, words_at}
use Rattle.gsl_machine.specs.State.{InBlock, InVariable, Outcome, Pointer, State, Stuck, on}
use Rattle.gsl_enact_memory.specs.Reaching.{block_stored, bytes_in, bytes_stored, count_of, counted_if, counted_in, into_in, loaded_from, loaded_in, part_of_variable, variable_stored}

pub into_is : (m : Module) (input : Input) (place : ℕ) (state : State) (from : Pointer) (index : ℕ) (go : Pointer → Outcome) → into m input place state from index go ≡ into_in m input state.buffers state.variables place from index go
into_is m input place state (InBlock variable offset pointee) index go = refl
into_is m input place state (InVariable number path) index go = refl

from_bytes : (m : Module) (offset pointee : ℕ) (go : Value → Outcome) (bytes : Option (List ℕ)) → on bytes (λ bytes. go (of_components (words_at m offset pointee bytes))) ≡ on (loaded_from m offset pointee bytes) go
from_bytes m offset pointee go None = refl
from_bytes m offset pointee go (Some bytes) = refl

from_variable : (path : List ℕ) (go : Value → Outcome) (v : Option Value) → on v (λ v. go (value_at v path)) ≡ on (part_of_variable path v) go
from_variable path go None = refl
from_variable path go (Some v) = refl

pub loading_is : (m : Module) (input : Input) (state : State) (from : Pointer) (go : Value → Outcome) → loading m input state from go ≡ on (loaded_in m input state.buffers state.variables from) go
loading_is m input state (InBlock variable offset pointee) go = from_bytes m offset pointee go (bytes_in m input state.buffers variable)
loading_is m input state (InVariable number path) go = from_variable path go (slice_get state.variables number)

-- ---- what is stored

in_bytes : (m : Module) (state : State) (variable offset : ℕ) (v : Value) (go : State → Outcome) (bytes : Option (List ℕ))
    → on bytes (λ bytes. go (with_block m state variable (put_words offset (components_in v) bytes))) ≡ on (bytes_stored m state.buffers variable offset v bytes) (λ buffers. go (record state { buffers = buffers }))
in_bytes m state variable offset v go None = refl
in_bytes m state variable offset v go (Some bytes) = refl

pub storing_in_block : (m : Module) (input : Input) (state : State) (variable offset pointee : ℕ) (v : Value) (go : State → Outcome)
    → storing m input state (InBlock variable offset pointee) v go ≡ on (block_stored m input state.buffers variable offset v) (λ buffers. go (record state { buffers = buffers }))
storing_in_block m input state variable offset pointee v go = in_bytes m state variable offset v go (bytes_in m input state.buffers variable)

in_value : (state : State) (number : ℕ) (path : List ℕ) (v : Value) (go : State → Outcome) (old : Option Value)
    → on old (λ old. go (with_variable state number (with_value_at old path v))) ≡ on (variable_stored state.variables number path v old) (λ variables. go (record state { variables = variables }))
in_value state number path v go None = refl
in_value state number path v go (Some old) = refl

pub storing_in_variable : (m : Module) (input : Input) (state : State) (number : ℕ) (path : List ℕ) (v : Value) (go : State → Outcome)
    → storing m input state (InVariable number path) v go
    ≡ on (variable_stored state.variables number path v (slice_get state.variables number)) (λ variables. go (record state { variables = variables }))
storing_in_variable m input state number path v go = in_value state number path v go (slice_get state.variables number)

-- ---- counts

-- whatever counts at a part as the machine does
counted_at : (m : Module) (variable offset pointee member : ℕ) (go : ℕ → Outcome) (count_at : List ℕ → Pointer → Outcome)
    → ((bytes : List ℕ) (variable offset pointee : ℕ) → count_at bytes (InBlock variable offset pointee) ≡ go (parts_as m (length bytes) offset pointee (shape_of (defined_as m pointee))))
    → ((bytes path : List ℕ) (number : ℕ) → count_at bytes (InVariable number path) ≡ Stuck)
    → (bytes : Option (List ℕ)) → on bytes (λ bytes. on (part_as m variable offset pointee member (shape_of (defined_as m pointee))) (count_at bytes)) ≡ on (counted_if m variable offset pointee member bytes) go
counted_at m variable offset pointee member go count_at in_block in_variable None = refl
counted_at m variable offset pointee member go count_at in_block in_variable (Some bytes) = by_part (part_as m variable offset pointee member (shape_of (defined_as m pointee)))
  where
    by_part : (part : Option Pointer) → on part (count_at bytes) ≡ on (count_of m bytes part) go
    by_part None = refl
    by_part (Some (InBlock variable offset pointee)) = in_block bytes variable offset pointee
    by_part (Some (InVariable number path)) = in_variable bytes path number

pub counting_is : (m : Module) (input : Input) (state : State) (from : Pointer) (member : ℕ) (go : ℕ → Outcome) → counting m input state from member go ≡ on (counted_in m input state.buffers from member) go
counting_is m input state (InBlock variable offset pointee) member go =
    counted_at m variable offset pointee member go _ (λ bytes variable offset pointee. refl) (λ bytes path number. refl) (bytes_in m input state.buffers variable)
counting_is m input state (InVariable number path) member go = refl
