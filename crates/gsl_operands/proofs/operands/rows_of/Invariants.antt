use Rattle.std.proofs.Common.{◌≡◌, ◌-◌, ◌≤◌, map}
use Rattle.std.specs.List.{range_with_len}
use Rattle.gsl_operands.specs.Operands.{constants_below, first}
use Rattle.gsl_operands.proofs.operands.rows_of.Given as goal

abbrev pub invariant-loop-id : goal.invariant-loop-id
invariant-loop-id l = (l.bound ≡ l.frames.bound) × (l.id ≤ l.bound) × (l.words.items ≡ constants_below l.frames l.id) × (l.firsts.items ≡ map (first l.frames) (range_with_len 0 l.id))

abbrev pub decreases-loop-id : goal.decreases-loop-id
decreases-loop-id l = l.bound - l.id
