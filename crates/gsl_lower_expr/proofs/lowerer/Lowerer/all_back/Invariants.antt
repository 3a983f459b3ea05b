use Rattle.std.proofs.Common.{◌≡◌, drop, map}
use Rattle.gsl_tree.specs.Trees.{type_of}
use Rattle.gsl_lower_holders.specs.Flow.{flow_of}
use Rattle.gsl_lower_expr.specs.Calls.{all_back}
use Rattle.gsl_lower_expr.proofs.lowerer.Lowerer.all_back.Given as goal

abbrev pub invariant-loop-k : goal.invariant-loop-k
invariant-loop-k l =
    all_back l.self.shapes.now (drop l.k l.passed) (drop l.k l.params) (map type_of (drop l.k l.es)) (flow_of l.b l.p)
    ≡ all_back l.self.shapes.now l.passed l.params (map type_of l.es) (flow_of l.initial.b l.p)
