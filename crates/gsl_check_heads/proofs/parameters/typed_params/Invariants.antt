use Rattle.std.proofs.Common.{◌≡◌, ◌++◌, drop}
use Rattle.gsl_check_heads.specs.Heads.{typed_params}
use Rattle.gsl_check_heads.proofs.parameters.typed_params.Given as goal

abbrev pub invariant-loop-k : goal.invariant-loop-k
invariant-loop-k l = l.typed ++ typed_params (drop l.k l.fn.params) ≡ typed_params l.fn.params
