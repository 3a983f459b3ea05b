use Rattle.std.proofs.Common.{◌≡◌, drop}
use Rattle.gsl_lower_expr.specs.Coming.{keeps_all, passes_all, sequence_of, setting_of}
use Rattle.gsl_lower_holders.specs.Flow.{flow_of, with_front}
use Rattle.gsl_lower_expr.specs.Rows as rows
use Rattle.gsl_lower_expr.proofs.lowerer.Lowerer.+expressions.Given as goal

abbrev pub invariant-keeps-loop-k : goal.invariant-keeps-loop-k
invariant-keeps-loop-k l =
    (l.left ≡ rows.count_splits (drop l.k l.es))
    × (with_front l.kept (keeps_all (setting_of l.self.shapes.now l.self.interfaces.now l.self.prototypes.now) (drop l.k l.es) (flow_of l.b l.p))
    ≡ keeps_all (setting_of l.self.shapes.now l.self.interfaces.now l.self.prototypes.now) l.es (flow_of l.initial.b l.initial.p))

abbrev pub invariant-sequence-loop-k : goal.invariant-sequence-loop-k
invariant-sequence-loop-k l =
    sequence_of (setting_of l.self.shapes.now l.self.interfaces.now l.self.prototypes.now) l.last (drop l.k l.items) (flow_of l.b l.p)
    ≡ sequence_of (setting_of l.self.shapes.now l.self.interfaces.now l.self.prototypes.now) 0 l.items (flow_of l.initial.b l.initial.p)

abbrev pub invariant-passes_all-loop-k : goal.invariant-passes_all-loop-k
invariant-passes_all-loop-k l =
    (l.left ≡ rows.count_splits (drop l.k l.es))
    × (with_front l.passed (passes_all (setting_of l.self.shapes.now l.self.interfaces.now l.self.prototypes.now) (drop l.k l.es) (drop l.k l.params) (flow_of l.b l.p))
    ≡ passes_all (setting_of l.self.shapes.now l.self.interfaces.now l.self.prototypes.now) l.es l.params (flow_of l.initial.b l.initial.p))
