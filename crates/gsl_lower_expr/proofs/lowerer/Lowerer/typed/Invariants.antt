use Rattle.std.proofs.Common.{◌≡◌, ◌++◌, drop}
use Rattle.gsl_lower_expr.specs.Rows as rows
use Rattle.gsl_lower_expr.proofs.lowerer.Lowerer.typed.Given as goal

abbrev pub invariant-loop-k : goal.invariant-loop-k
invariant-loop-k l = l.all ++ rows.typed_all (drop l.k l.es) (drop l.k l.ids) ≡ rows.typed_all l.es l.ids
