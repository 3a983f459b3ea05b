use Rattle.std.proofs.Common.{◌≡◌, length}
use Rattle.gsl_enact_state.specs.Seen.{ids_seen}
use Rattle.gsl_enact_steps.specs.Outcomes.{behind, values_in}
use Rattle.gsl_enact_steps.proofs.operands.all_values.Given as goal

abbrev pub invariant-loop-rest : goal.invariant-loop-rest
invariant-loop-rest l =
    behind l.found (values_in (ids_seen l.globals l.state.own l.state.rows) l.rest) ≡ values_in (ids_seen l.globals l.state.own l.state.rows) l.ids

abbrev pub decreases-loop-rest : goal.decreases-loop-rest
decreases-loop-rest l = length l.rest
