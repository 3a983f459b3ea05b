use Rattle.std.proofs.Common.{◌≡◌, length}
use Rattle.gsl_blocks.specs.Order as spec
use Rattle.gsl_blocks.proofs.runs.push_cases.Given as goal

abbrev pub invariant-loop-label : goal.invariant-loop-label
invariant-loop-label l = spec.cases l.fn.around l.fn.merge l.next l.arms l.stack ≡ spec.cases l.fn.around l.fn.merge l.fn.merge l.fn.arms l.fn.stack

abbrev pub decreases-loop-label : goal.decreases-loop-label
decreases-loop-label l = length l.arms
