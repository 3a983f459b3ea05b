use Rattle.std.proofs.Common.{◌≡◌, drop, map, ◌++◌}
use Rattle.gsl_calls.specs.Calls.{types_in}
use Rattle.gsl_calls.proofs.calling.types_in.Given as goal

abbrev pub invariant-loop-k : goal.invariant-loop-k
invariant-loop-k l = l.types ++ types_in (drop l.k l.fn.args) ≡ types_in l.fn.args
