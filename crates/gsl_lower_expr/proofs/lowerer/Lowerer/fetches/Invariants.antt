use Rattle.std.proofs.Common.{◌≡◌, drop}
use Rattle.gsl_lower_holders.specs.Flow.{flow_of, with_front}
use Rattle.gsl_lower_expr.specs.Rows as rows
use Rattle.gsl_lower_expr.proofs.lowerer.Lowerer.fetches.Given as goal

abbrev pub invariant-loop-k : goal.invariant-loop-k
invariant-loop-k l =
    (l.left ≡ rows.count_splits (drop l.k l.es))
    × (with_front l.ids (rows.fetches_all (drop l.k l.es) (drop l.k l.kept) (flow_of l.b l.p)) ≡ rows.fetches_all l.es l.kept (flow_of l.initial.b l.p))
