-- What the code holds of a run, seen as the machine's state.
use Rattle.std.specs.Prelude.{ℕ, Bool, true, false, List, [], ◌∷◌, map, reverse, Option, Some, None}
use Rattle.gsl_words.specs.declared.module.Module.{Module}
use Rattle.gsl_values.specs.declared.value.Value.{Value}
use Rattle.gsl_tree.specs.Values.{word_in}
use Rattle.gsl_machine.specs.Functions.{up_to_end}
use Rattle.gsl_machine.specs.Interfaces.{globals}
use Rattle.gsl_machine.specs.State.{Held, Ids, Pointer, Points, State, Waiting, Whole, give}
use Rattle.gsl_enact_memory.specs.Reaching.{pointer_seen}
use Rattle.gsl_enact_state.specs.declared.state.Held.{Held as HeldHere}
use Rattle.gsl_enact_state.specs.declared.state.Held.TheVariants as held
use Rattle.gsl_enact_state.specs.declared.state.Given.{Given}
use Rattle.gsl_enact_state.specs.declared.state.Waiting.{Waiting as WaitingHere}
use Rattle.gsl_enact_state.specs.declared.state.State.{State as StateHere}

-- ---- what ids stand for

abbrev pub held_seen : HeldHere → Held
held_seen (held.Whole value) = Whole value
held_seen (held.Points to) = Points (pointer_seen to)

abbrev pub held_if_seen : Option HeldHere → Option Held
held_if_seen None = None
held_if_seen (Some h) = Some (held_seen h)

-- ids with rows given one after the other
unfoldable pub given : Ids → List Given → Ids
given ids [] = ids
given ids (row ∷ rows) = given (give ids row.id (held_seen row.held)) rows

-- those of a function and those of a block, with these rows beside what ids stand for in the whole module
unfoldable pub own_seen : Module → List Given → Ids
own_seen m own = given (globals m) own

unfoldable pub ids_seen : Module → List Given → List Given → Ids
ids_seen m own rows = given (own_seen m own) rows

-- what a row says, where there is one, before what else there is
abbrev pub found_or : Option HeldHere → Option Held → Option Held
found_or None other = other
found_or (Some h) other = Some (held_seen h)

abbrev pub is_there : {A : Type 0} → Option A → Bool
is_there None = false
is_there (Some a) = true

-- the value and the pointer that an id stands for
abbrev pub whole_in : Option Held → Option Value
whole_in None = None
whole_in (Some (Whole value)) = Some value
whole_in (Some (Points to)) = None

abbrev pub pointer_in : Option Held → Option Pointer
pointer_in None = None
pointer_in (Some (Whole value)) = None
pointer_in (Some (Points to)) = Some to

abbrev pub word_if : Option Value → Option ℕ
word_if None = None
word_if (Some v) = Some (word_in v)

-- ---- the state

abbrev pub waiting_seen : Module → WaitingHere → Waiting
waiting_seen m w = record {
  result = w.result;
  rest = up_to_end w.rest;
  body = up_to_end w.body;
  ids = ids_seen m w.own w.rows;
  own = own_seen m w.own;
  count = w.count;
}

-- the calls that wait, the last first
unfoldable pub calls_seen : Module → List WaitingHere → List Waiting
calls_seen m calls = map (waiting_seen m) (reverse calls)

abbrev pub state_seen : Module → StateHere → State
state_seen m s = record {
  rest = up_to_end s.rest;
  body = up_to_end s.body;
  ids = ids_seen m s.own s.rows;
  own = own_seen m s.own;
  variables = s.variables;
  buffers = s.buffers;
  choices = s.choices;
  waiting = calls_seen m s.waiting;
}
