-- The state in which a function begins, and that to which a call comes back.
use Rattle.std.proofs.Common.{◌≡◌, sym, ap, ◌∙◌, ℕ, List, [], ◌∷◌, ◌++◌, map, take, reverse, Some, None}
use Rattle.std.proofs.lemmas.List.{reverse-append}
use Rattle.gsl_words.specs.declared.module.Module.{Module}
use Rattle.gsl_values.specs.declared.value.Value.{Value}
use Rattle.gsl_valid.specs.Kinds.{Variable}
use Rattle.gsl_valid.specs.Placed.{Placed}
use Rattle.gsl_machine.specs.Functions.{from_first_label, give_each, point_each, up_to_end}
use Rattle.gsl_machine.specs.State.{Held, Ids}
use Rattle.gsl_enact_state.specs.declared.state.Given.{Given}
use Rattle.gsl_enact_state.specs.declared.state.State.{State}
use Rattle.gsl_enact_state.specs.declared.state.Waiting.{Waiting}
use Rattle.gsl_enact_state.proofs.Rowed.{ids_none}
use Rattle.gsl_enact_state.specs.Seen.{calls_seen, ids_seen, own_seen, state_seen, waiting_seen}
use Rattle.gsl_enact_functions.specs.Bodies.{returned}

pub own_ids_are : (base own : Ids) (ids ids_of : List ℕ) (arguments : List Held) (count count_of : ℕ) (variables variables_of : List Variable) → own ≡ point_each (give_each base ids arguments) count variables
    → ids ≡ ids_of → count ≡ count_of → variables ≡ variables_of → own ≡ point_each (give_each base ids_of arguments) count_of variables_of
own_ids_are base own ids ids_of arguments count count_of variables variables_of is same_ids same_count same_variables =
    is ∙ ap (λ l. point_each (give_each base l arguments) count variables) same_ids ∙ ap (λ n. point_each (give_each base ids_of arguments) n variables) same_count
    ∙ ap (point_each (give_each base ids_of arguments) count_of) same_variables

pub entered_is : (m : Module) (s : State) (rest at body : List Placed) (own rows : List Given) (variables begun : List Value) (ids : Ids) → up_to_end rest ≡ from_first_label (up_to_end body) → at ≡ body → own_seen m own ≡ ids → rows ≡ []
    → variables ≡ begun
    → state_seen m (record s { rest = rest; body = at; own = own; rows = rows; variables = variables })
    ≡ record (state_seen m s) { rest = from_first_label (up_to_end body); body = up_to_end body; ids = ids; own = ids; variables = begun }
entered_is m s rest at body own rows variables begun ids first here own_is none begins =
    ap (λ r. record (state_seen m s) { rest = r; body = up_to_end at; ids = ids_seen m own rows; own = own_seen m own; variables = variables }) first
    ∙ ap (λ b. record (state_seen m s) { rest = from_first_label (up_to_end body); body = up_to_end b; ids = ids_seen m own rows; own = own_seen m own; variables = variables }) here
    ∙ ap (λ i. record (state_seen m s) { rest = from_first_label (up_to_end body); body = up_to_end body; ids = i; own = own_seen m own; variables = variables }) (ids_none m own rows none)
    ∙ ap (λ i. record (state_seen m s) { rest = from_first_label (up_to_end body); body = up_to_end body; ids = i; own = i; variables = variables }) own_is
    ∙ ap (λ v. record (state_seen m s) { rest = from_first_label (up_to_end body); body = up_to_end body; ids = ids; own = ids; variables = v }) begins

-- ---- calls

pub calls_push : (m : Module) (calls new : List Waiting) (call : Waiting) → new ≡ calls ++ call ∷ [] → calls_seen m new ≡ waiting_seen m call ∷ calls_seen m calls
unfolding calls_seen
calls_push m calls new call is = ap (λ l. map (waiting_seen m) (reverse l)) is ∙ ap (map (waiting_seen m)) (reverse-append calls (call ∷ []))

pub none_waits : (m : Module) (s : State) (calls : List Waiting) → calls ≡ [] → returned (calls_seen m calls) (state_seen m s) ≡ None
unfolding calls_seen
none_waits m s calls is = ap (λ l. returned (calls_seen m l) (state_seen m s)) is

pub one_waits : (m : Module) (s : State) (calls all : List Waiting) (call : Waiting) (variables : List Value) → all ≡ calls ++ call ∷ [] → variables ≡ take call.count s.variables
    → returned (calls_seen m all) (state_seen m s)
    ≡ Some (call.result, state_seen m (record s { rest = call.rest; body = call.body; own = call.own; rows = call.rows; variables = variables; waiting = calls }))
one_waits m s calls all call variables is cut =
    ap (λ l. returned l (state_seen m s)) (calls_push m calls all call is)
    ∙ ap (λ v. Some (call.result, state_seen m (record s { rest = call.rest; body = call.body; own = call.own; rows = call.rows; variables = v; waiting = calls }))) (sym cut)
