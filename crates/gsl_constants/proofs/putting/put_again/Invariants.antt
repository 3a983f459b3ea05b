use Rattle.std.proofs.Common.{◌≡◌, ◌++◌, drop, take}
use Rattle.gsl_constants.proofs.putting.put_again.Given as goal

abbrev pub invariant-loop-k : goal.invariant-loop-k
invariant-loop-k l = l.words.items ≡ l.initial.words.items ++ take l.k (drop l.first l.initial.words.items)
