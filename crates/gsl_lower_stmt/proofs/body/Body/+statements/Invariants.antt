use Rattle.std.proofs.Common.{◌≡◌, drop}
use Rattle.gsl_lower_expr.specs.Coming.{setting_of}
use Rattle.gsl_lower_holders.specs.Flow.{flow_of}
use Rattle.gsl_lower_stmt.specs.Coming.{falls, row}
use Rattle.gsl_lower_stmt.proofs.body.Body.+statements.Given as goal

abbrev pub invariant-row-loop-k : goal.invariant-row-loop-k
invariant-row-loop-k l =
    row (setting_of l.self.lowerer.shapes.now l.self.lowerer.interfaces.now l.self.lowerer.prototypes.now) l.self.locals.now (drop l.k l.ss) l.exits (flow_of l.b l.p)
    ≡ row (setting_of l.self.lowerer.shapes.now l.self.lowerer.interfaces.now l.self.lowerer.prototypes.now) l.self.locals.now l.ss l.exits (flow_of l.initial.b l.initial.p)

abbrev pub invariant-falls-loop-k : goal.invariant-falls-loop-k
invariant-falls-loop-k l =
    falls (setting_of l.self.lowerer.shapes.now l.self.lowerer.interfaces.now l.self.lowerer.prototypes.now) l.self.locals.now l.end (drop l.k l.labels) (drop l.k l.arms) l.exits (flow_of l.b l.p)
    ≡ falls (setting_of l.self.lowerer.shapes.now l.self.lowerer.interfaces.now l.self.lowerer.prototypes.now) l.self.locals.now l.end l.labels l.arms l.exits (flow_of l.initial.b l.initial.p)
