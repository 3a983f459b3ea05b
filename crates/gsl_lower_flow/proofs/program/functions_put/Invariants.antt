use Rattle.std.proofs.Common.{◌≡◌, drop}
use Rattle.gsl_lower_expr.specs.Coming.{setting_of}
use Rattle.gsl_lower_holders.specs.Flow.{flow_of}
use Rattle.gsl_lower_flow.specs.Programs as spec
use Rattle.gsl_lower_flow.specs.Reaching.{is_among}
use Rattle.gsl_lower_flow.proofs.program.functions_put.Given as goal

abbrev pub invariant-loop-k : goal.invariant-loop-k
invariant-loop-k l =
    spec.functions_put (is_among l.found.keys l.main) (setting_of l.lowerer.shapes.now l.lowerer.interfaces.now l.lowerer.prototypes.now) l.lowerer.prototypes.now (drop l.k l.functions) (flow_of l.b l.p)
    ≡ spec.functions_put (is_among l.found.keys l.main) (setting_of l.lowerer.shapes.now l.lowerer.interfaces.now l.lowerer.prototypes.now) l.lowerer.prototypes.now l.functions (flow_of l.initial.b l.initial.p)
