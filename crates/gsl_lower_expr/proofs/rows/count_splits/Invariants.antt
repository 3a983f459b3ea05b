use Rattle.std.proofs.Common.{◌≡◌, ◌+◌, drop}
use Rattle.gsl_lower_expr.specs.Rows as rows
use Rattle.gsl_lower_expr.proofs.rows.count_splits.Given as goal

abbrev pub invariant-loop-k : goal.invariant-loop-k
invariant-loop-k l = l.count + rows.count_splits (drop l.k l.es) ≡ rows.count_splits l.es
