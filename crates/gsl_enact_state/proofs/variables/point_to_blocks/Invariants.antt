use Rattle.std.proofs.Common.{◌≡◌, length, map}
use Rattle.gsl_kinds.specs.Seen.{variable_seen}
use Rattle.gsl_machine.specs.Interfaces.{point_blocks}
use Rattle.gsl_machine.specs.State.{Ids}
use Rattle.gsl_enact_state.specs.Seen.{given}
use Rattle.gsl_enact_state.proofs.variables.point_to_blocks.Given as goal

abbrev pub invariant-loop-rest : goal.invariant-loop-rest
invariant-loop-rest l =
    (ids : Ids) → point_blocks l.definitions (given ids l.rows) (map variable_seen l.rest) ≡ point_blocks l.definitions (given ids l.initial.rows) (map variable_seen l.variables)

abbrev pub decreases-loop-rest : goal.decreases-loop-rest
decreases-loop-rest l = length l.rest
