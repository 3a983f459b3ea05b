use Rattle.std.proofs.Common.{◌≡◌}
use Rattle.gsl_enact_state.specs.Seen.{state_seen}
use Rattle.gsl_machine.specs.Machine.{run}
use Rattle.gsl_enact.proofs.running.run.Given as goal

abbrev pub invariant-loop-left : goal.invariant-loop-left
invariant-loop-left l = run l.globals l.input l.left (state_seen l.globals l.state) ≡ run l.globals l.input l.steps (state_seen l.globals l.initial.state)

abbrev pub decreases-loop-left : goal.decreases-loop-left
decreases-loop-left l = l.left
