use Rattle.std.proofs.Common.{◌≡◌, drop}
use Rattle.gsl_check_heads.specs.Heads.{params_named}
use Rattle.gsl_check_heads.proofs.entering.name_params.Given as goal

abbrev pub invariant-loop-k : goal.invariant-loop-k
invariant-loop-k l =
    record (l.env) { names = params_named l.k (drop l.k l.fn.params) l.env.names } ≡ record (l.fn.env) { names = params_named 0 l.fn.params l.fn.env.names }
