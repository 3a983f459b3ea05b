use Rattle.std.proofs.Common.{◌≡◌, ◌++◌, length}
use Rattle.gsl_check_decl.specs.Tables.{types_key, head_key}
use Rattle.gsl_check_decl.proofs.heads.head_key.Given as goal

abbrev pub invariant-loop-rest : goal.invariant-loop-rest
invariant-loop-rest l = l.key ++ types_key l.rest ≡ head_key l.fn.name l.fn.params

abbrev pub decreases-loop-rest : goal.decreases-loop-rest
decreases-loop-rest l = length l.rest
