use Rattle.std.proofs.Common.{◌≡◌, ◌++◌, replicate}
use Rattle.gsl_constants.proofs.putting.put_zeros.Given as goal

abbrev pub invariant-loop-k : goal.invariant-loop-k
invariant-loop-k l = l.words.items ≡ l.initial.words.items ++ replicate l.k 0
