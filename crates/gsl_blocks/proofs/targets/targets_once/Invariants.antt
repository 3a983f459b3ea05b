use Rattle.std.proofs.Common.{◌≡◌, length}
use Rattle.gsl_instr.specs.Instructions.{seconds}
use Rattle.gsl_blocks.specs.Targets as spec
use Rattle.gsl_blocks.proofs.targets.targets_once.Given as goal

abbrev pub invariant-loop-label : goal.invariant-loop-label
invariant-loop-label l = spec.once_from l.labels.keys (seconds l.rest) ≡ spec.once (seconds l.fn.targets)

abbrev pub decreases-loop-label : goal.decreases-loop-label
decreases-loop-label l = length l.rest
