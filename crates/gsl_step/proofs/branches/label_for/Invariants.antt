use Rattle.std.proofs.Common.{◌≡◌, length}
use Rattle.gsl_machine.specs.Steps.{label_for}
use Rattle.gsl_step.proofs.branches.label_for.Given as goal

abbrev pub invariant-loop-rest : goal.invariant-loop-rest
invariant-loop-rest l = label_for l.word l.default l.rest ≡ label_for l.word l.default l.targets

abbrev pub decreases-loop-rest : goal.decreases-loop-rest
decreases-loop-rest l = length l.rest
