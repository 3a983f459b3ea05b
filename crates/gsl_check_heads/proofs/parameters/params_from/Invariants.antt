use Rattle.std.proofs.Common.{◌≡◌, drop, []}
use Rattle.gsl_check_heads.specs.Heads.{params_from}
use Rattle.gsl_check_heads.proofs.parameters.params_from.Given as goal

abbrev pub invariant-loop-k : goal.invariant-loop-k
invariant-loop-k l = params_from l.fn.env (drop l.k l.fn.items) l.params ≡ params_from l.fn.env l.fn.items []
