use Rattle.std.proofs.Common.{◌-◌}
use Rattle.gsl_link_calls.proofs.Deep.{Table}
use Rattle.gsl_link_calls.proofs.depth.depths_of.Given as goal

abbrev pub invariant-loop-done : goal.invariant-loop-done
invariant-loop-done l = Table l.table l.done l.rows.items

abbrev pub decreases-loop-done : goal.decreases-loop-done
decreases-loop-done l = 65 - l.done
