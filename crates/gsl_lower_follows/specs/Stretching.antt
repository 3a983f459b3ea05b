-- Stretches of a run: what they lead to, and how many instructions they take.
use Rattle.std.specs.Prelude.{◌≡◌, ℕ, ◌+◌, ◌*◌, ◌≤◌, List, [], ◌∷◌, length}
use Rattle.gsl_base.specs.declared.input.Input.{Input}
use Rattle.gsl_words.specs.declared.module.Module.{Module}
use Rattle.gsl_valid.specs.Placed.{words_from}
use Rattle.gsl_machine.specs.Machine.{run}
use Rattle.gsl_machine.specs.State.{Going, Ended, Outcome, State, Strayed, Stuck, Waiting}

-- how many instructions the calls that wait have still to come
abbrev pub room_behind : List Waiting → ℕ
room_behind [] = 0
room_behind (call ∷ calls) = length call.rest + room_behind calls

-- how many instructions stand behind a place in the code and behind the calls that wait
abbrev pub room : State → ℕ
room state = length state.rest + room_behind state.waiting

abbrev pub room_of : Outcome → ℕ
room_of (Going state) = room state
room_of (Ended output) = 0
room_of (Strayed place) = 0
room_of Stuck = 0

-- how many instructions a unit is worth: no function has more
abbrev pub worth : Module → ℕ
worth m = words_from 0 m.instrs

-- From a state with some units to an outcome with some that are left. It takes at least an instruction for each unit that was used; and at most
-- what the units are worth and what the code gets shorter by, where some instructions are lent to it, and some given back.
pub record Stretch (m : Module) (input : Input) (lent back units : ℕ) (state : State) (left : ℕ) (outcome : Outcome) : Type 0 where
  pub count : ℕ
  pub slow : units ≤ count + left
  pub fast : count + (back + (worth m * left + room_of outcome)) ≤ lent + (worth m * units + room state)
  pub runs : run m input count state ≡ outcome
