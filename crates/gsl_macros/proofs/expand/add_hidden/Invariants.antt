use Rattle.std.proofs.Common.{◌≡◌, ◌++◌, length}
use Rattle.gsl_macros.specs.Expanding.{hidden}
use Rattle.gsl_macros.proofs.expand.add_hidden.Given as goal

abbrev pub invariant-loop-rest : goal.invariant-loop-rest
invariant-loop-rest l = l.list ++ hidden l.place l.more l.rest ≡ l.initial.list ++ hidden l.place l.more l.fn.tokens

abbrev pub decreases-loop-rest : goal.decreases-loop-rest
decreases-loop-rest l = length l.rest
