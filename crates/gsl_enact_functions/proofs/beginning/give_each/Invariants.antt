use Rattle.std.proofs.Common.{◌≡◌, length, map}
use Rattle.gsl_machine.specs.Functions.{give_each}
use Rattle.gsl_machine.specs.State.{Ids}
use Rattle.gsl_enact_state.specs.Seen.{given, held_seen}
use Rattle.gsl_enact_functions.proofs.beginning.give_each.Given as goal

abbrev pub invariant-loop-ids : goal.invariant-loop-ids
invariant-loop-ids l = (all : Ids) → give_each (given all l.rows) l.ids (map held_seen l.arguments) ≡ give_each (given all l.initial.rows) l.initial.ids (map held_seen l.initial.arguments)

abbrev pub decreases-loop-ids : goal.decreases-loop-ids
decreases-loop-ids l = length l.ids
