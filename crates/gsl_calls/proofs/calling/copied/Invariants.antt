use Rattle.std.proofs.Common.{◌≡◌, drop, map, ◌++◌}
use Rattle.gsl_calls.proofs.calling.copied.Given as goal

abbrev pub invariant-loop-k : goal.invariant-loop-k
invariant-loop-k l = l.list ++ drop l.k l.fn.params ≡ l.fn.params
