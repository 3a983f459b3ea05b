use Rattle.std.proofs.Common.{◌≡◌, length}
use Rattle.gsl_conditions.specs.Reading.{read}
use Rattle.gsl_conditions.proofs.condition.read.Given as goal

abbrev pub invariant-loop-rest : goal.invariant-loop-rest
invariant-loop-rest l = read l.reader l.rest ≡ read l.initial.reader l.initial.rest

abbrev pub decreases-loop-rest : goal.decreases-loop-rest
decreases-loop-rest l = length l.rest
