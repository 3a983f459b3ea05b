use Rattle.std.proofs.Common.{◌≡◌, ◌≤◌, length, take}
use Rattle.gsl_machine.specs.State.{Ids}
use Rattle.gsl_enact_state.specs.Seen.{given}
use Rattle.gsl_enact_state.proofs.rows.row_of.Given as goal

abbrev pub invariant-loop-at : goal.invariant-loop-at
invariant-loop-at l = (l.at ≤ length l.rows) × ((ids : Ids) → given ids l.rows l.id ≡ given ids (take l.at l.rows) l.id)

abbrev pub decreases-loop-at : goal.decreases-loop-at
decreases-loop-at l = l.at
