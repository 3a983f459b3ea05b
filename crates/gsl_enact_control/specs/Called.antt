-- What the arguments of a call stand for, and what a return comes to.
use Rattle.std.specs.Prelude.{ℕ, false, List, [], ◌∷◌, map, Option, Some, None}
use Rattle.gsl_words.specs.declared.module.Module.{Module}
use Rattle.gsl_machine.specs.Interfaces.{output_of}
use Rattle.gsl_machine.specs.State.{Ended, Held, Ids, Outcome, State}
use Rattle.gsl_enact_state.specs.declared.state.Held.{Held as HeldHere}
use Rattle.gsl_enact_state.specs.Seen.{held_seen}
use Rattle.gsl_enact_steps.specs.Outcomes.{in_front}

-- what ids stand for, if each of them stands for something
unfoldable pub held_in : Ids → List ℕ → Option (List Held)
held_in ids [] = Some []
held_in ids (id ∷ more) = in_front (ids id) (held_in ids more)

abbrev pub held_if : Option (List HeldHere) → Option (List Held)
held_if None = None
held_if (Some found) = Some (map held_seen found)

-- what a return comes to, by what the call that waits last comes back to, with the id of its result
abbrev pub left_by : Module → State → (ℕ → State → Outcome) → Option (ℕ × State) → Outcome
left_by m state go None = Ended (output_of m false state)
left_by m state go (Some (id, left)) = go id left
