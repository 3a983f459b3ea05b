-- The entry that the code finds, and the state with which a run begins.
use Rattle.std.proofs.Common.{◌≡◌, refl, ap, ◌∙◌, ℕ, ◌+◌, List, [], ◌∷◌, map, Some, None}
use Rattle.gsl_base.specs.declared.input.Buffer.{Buffer}
use Rattle.gsl_base.specs.declared.input.Input.{Input}
use Rattle.gsl_words.specs.Instructions.{word_count}
use Rattle.gsl_words.specs.declared.module.Module.{Module}
use Rattle.gsl_valid.specs.Instruction.{read}
use Rattle.gsl_valid.specs.Kinds.{kind}
use Rattle.gsl_values.specs.declared.value.Value.{Value}
use Rattle.gsl_valid.specs.Placed.{Code, Placed, header_size, placed, placed_from}
use Rattle.gsl_machine.specs.Functions.{entered}
use Rattle.gsl_machine.specs.Interfaces.{globals, value_variables, variable_begins}
use Rattle.gsl_machine.specs.Machine.{before_entry, entering, entry_body, entry_in, entry_of, or_else, start}
use Rattle.gsl_machine.specs.State.{State}
use Rattle.gsl_enact_state.specs.declared.state.Given.{Given}
use Rattle.gsl_enact_state.specs.declared.state.Waiting.{Waiting}
use Rattle.gsl_enact_state.specs.Seen.{calls_seen, given, ids_seen, own_seen, state_seen}
use Rattle.gsl_enact.specs.Entry.{entry_from}

entry_gives : (at : ℕ) (code : Code) → entry_from (placed_from at code) ≡ entry_of code
unfolding entry_from
entry_gives at [] = refl
entry_gives at (i ∷ code) = ap (or_else (entry_in (kind (read i)))) (entry_gives (at + word_count i) code)

pub entry_is : (m : Module) → entry_from (placed m) ≡ entry_of m.instrs
entry_is m = entry_gives header_size m.instrs

-- ---- the state with which a run begins

abbrev of : Module → List Placed → List Placed → List Given → List Given → List Value → List Buffer → List ℕ → List Waiting → State
of m rest body own rows variables buffers choices waiting =
    state_seen m (record { rest = rest; body = body; own = own; rows = rows; variables = variables; buffers = buffers; choices = choices; waiting = waiting })

pub begun_is : (m : Module) (input : Input) (rest body : List Placed) (own rows : List Given) (variables : List Value) (buffers : List Buffer) (choices : List ℕ) (waiting : List Waiting)
    → rest ≡ [] → body ≡ [] → own ≡ [] → rows ≡ [] → variables ≡ map (variable_begins m input) (value_variables m) → buffers ≡ input.buffers → choices ≡ input.choices → waiting ≡ []
    → of m rest body own rows variables buffers choices waiting ≡ before_entry m input
unfolding ids_seen own_seen given calls_seen
begun_is m input rest body own rows variables buffers choices waiting no_rest no_body no_own no_rows begin given_buffers given_choices none_waits =
    let begun = map (variable_begins m input) (value_variables m) in
    ap (λ x. of m x body own rows variables buffers choices waiting) no_rest ∙ ap (λ x. of m [] x own rows variables buffers choices waiting) no_body
    ∙ ap (λ x. of m [] [] x rows variables buffers choices waiting) no_own ∙ ap (λ x. of m [] [] [] x variables buffers choices waiting) no_rows
    ∙ ap (λ x. of m [] [] [] [] x buffers choices waiting) begin ∙ ap (λ x. of m [] [] [] [] begun x choices waiting) given_buffers
    ∙ ap (λ x. of m [] [] [] [] begun input.buffers x waiting) given_choices ∙ ap (λ x. of m [] [] [] [] begun input.buffers input.choices x) none_waits

pub starts_nowhere : (m : Module) (input : Input) (s : State) → None ≡ entry_body m (entry_of m.instrs) → s ≡ before_entry m input → s ≡ start m input
unfolding start
starts_nowhere m input s none is = is ∙ ap (entering m input) none

pub starts_at : (m : Module) (input : Input) (body : List Placed) (s t : State) → Some body ≡ entry_body m (entry_of m.instrs) → s ≡ before_entry m input → t ≡ entered m (globals m) body [] s.waiting s → t ≡ start m input
unfolding start
starts_at m input body s t at is enters = enters ∙ ap (λ (z : State). entered m (globals m) body [] z.waiting z) is ∙ ap (entering m input) at
