use Rattle.std.proofs.Common.{◌≡◌, length}
use Rattle.gsl_syntax.specs.Nesting.{deep_from, first_deep}
use Rattle.gsl_nesting.proofs.nesting.first_deep.Given as goal

abbrev pub invariant-loop-rest : goal.invariant-loop-rest
invariant-loop-rest l = first_deep l.fn.tokens ≡ deep_from l.nesting.list l.nesting.label l.nesting.counters l.rest

abbrev pub decreases-loop-rest : goal.decreases-loop-rest
decreases-loop-rest l = length l.rest
