use Rattle.std.proofs.Common.{◌≡◌, ◌++◌, take}
use Rattle.gsl_operands.proofs.operands.put_all.Given as goal

abbrev pub invariant-loop-k : goal.invariant-loop-k
invariant-loop-k l = l.words.items ≡ l.initial.words.items ++ take l.k l.more
