use Rattle.std.proofs.Common.{◌≡◌, drop, map, ◌++◌}
use Rattle.gsl_calls.specs.Calls.{as_arguments}
use Rattle.gsl_calls.proofs.calling.as_arguments.Given as goal

abbrev pub invariant-loop-k : goal.invariant-loop-k
invariant-loop-k l = l.given ++ as_arguments (drop l.k l.fn.params) l.left ≡ as_arguments l.fn.params l.fn.args
