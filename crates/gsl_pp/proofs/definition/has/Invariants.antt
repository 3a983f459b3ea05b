use Rattle.std.proofs.Common.{◌≡◌, length}
use Rattle.gsl_pp.specs.Definitions.{has}
use Rattle.gsl_pp.proofs.definition.has.Given as goal

abbrev pub invariant-loop-rest : goal.invariant-loop-rest
invariant-loop-rest l = has l.rest l.name ≡ has l.initial.rest l.name

abbrev pub decreases-loop-rest : goal.decreases-loop-rest
decreases-loop-rest l = length l.rest
