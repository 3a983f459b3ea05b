use Rattle.std.proofs.Common.{◌≡◌, ◌≤◌, length, drop}
use Rattle.gsl_link_calls.specs.Table as spec
use Rattle.gsl_link_calls.proofs.table.firsts_of.Given as goal

abbrev pub invariant-loop-at : goal.invariant-loop-at
invariant-loop-at l = (l.firsts.items ≡ spec.firsts_from (spec.heads_of l.functions) l.at (drop l.at l.functions)) × (l.at ≤ length l.functions)

abbrev pub decreases-loop-at : goal.decreases-loop-at
decreases-loop-at l = l.at
