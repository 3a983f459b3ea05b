use Rattle.std.proofs.Common.{◌≡◌, length}
use Rattle.gsl_conditions.specs.Reading.{reduced}
use Rattle.gsl_conditions.proofs.reader.reduce.Given as goal

abbrev pub invariant-loop-stack : goal.invariant-loop-stack
invariant-loop-stack l = reduced l.least l.stack l.value ≡ reduced l.least l.initial.stack l.initial.value

abbrev pub decreases-loop-stack : goal.decreases-loop-stack
decreases-loop-stack l = length l.stack
