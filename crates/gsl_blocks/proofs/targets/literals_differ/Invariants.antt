use Rattle.std.proofs.Common.{◌≡◌, length}
use Rattle.gsl_blocks.specs.Targets as spec
use Rattle.gsl_blocks.proofs.targets.literals_differ.Given as goal

abbrev pub invariant-loop-literal : goal.invariant-loop-literal
invariant-loop-literal l = spec.differ_from l.literals.keys (spec.firsts l.rest) ≡ spec.all_differ (spec.firsts l.fn.targets)

abbrev pub decreases-loop-literal : goal.decreases-loop-literal
decreases-loop-literal l = length l.rest
