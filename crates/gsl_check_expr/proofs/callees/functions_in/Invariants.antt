use Rattle.std.proofs.Common.{◌≡◌, drop, ◌++◌}
use Rattle.gsl_check_expr.specs.Callees.{functions_in}
use Rattle.gsl_check_expr.proofs.callees.functions_in.Given as goal

abbrev pub invariant-loop-k : goal.invariant-loop-k
invariant-loop-k l = l.numbers ++ functions_in (drop l.k l.fn.entries) ≡ functions_in l.fn.entries
