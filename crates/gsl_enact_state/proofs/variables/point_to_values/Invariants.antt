use Rattle.std.proofs.Common.{◌≡◌, length, map}
use Rattle.gsl_kinds.specs.Seen.{variable_seen}
use Rattle.gsl_machine.specs.Functions.{point_each}
use Rattle.gsl_machine.specs.State.{Ids}
use Rattle.gsl_enact_state.specs.Seen.{given}
use Rattle.gsl_enact_state.proofs.variables.point_to_values.Given as goal

abbrev pub invariant-loop-rest : goal.invariant-loop-rest
invariant-loop-rest l = (ids : Ids) → point_each (given ids l.rows) l.number (map variable_seen l.rest) ≡ point_each (given ids l.initial.rows) l.first (map variable_seen l.variables)

abbrev pub decreases-loop-rest : goal.decreases-loop-rest
decreases-loop-rest l = length l.rest
