use Rattle.std.proofs.Common.{◌≡◌, length, map}
use Rattle.gsl_enact_state.specs.Seen.{held_seen, ids_seen}
use Rattle.gsl_enact_steps.specs.Outcomes.{behind}
use Rattle.gsl_enact_control.specs.Called.{held_in}
use Rattle.gsl_enact_control.proofs.calls.all_held.Given as goal

abbrev pub invariant-loop-rest : goal.invariant-loop-rest
invariant-loop-rest l =
    behind (map held_seen l.found) (held_in (ids_seen l.globals l.state.own l.state.rows) l.rest) ≡ held_in (ids_seen l.globals l.state.own l.state.rows) l.ids

abbrev pub decreases-loop-rest : goal.decreases-loop-rest
decreases-loop-rest l = length l.rest
