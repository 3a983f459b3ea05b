use Rattle.std.proofs.Common.{arith}
use Rattle.std.proofs.lemmas.Result.{err_from_is_err_and}
use Rattle.gsl_lower_expr.specs.Coming.{setting_of}
use Rattle.gsl_lower_holders.specs.Flow.{flow_of}
use Rattle.gsl_lower_stmt.specs.Coming.{falls, row}
use Rattle.gsl_lower_stmt.proofs.Turns.{body_stops, falls_end, falls_on, label_stops, row_end, row_left, row_on, row_stops, seal_stops}
use Rattle.gsl_lower_stmt.proofs.body.Body.+statements.Goals as goal

pub row-returns-in_err-left : goal.row-returns-in_err-left
row-returns-in_err-left t c =
    let p = err_from_is_err_and c.from_residual.result c.from_residual.ensures.1 in
    rw (p.1, p.2) (row_stops (setting_of c.args.self.now.lowerer.shapes.now c.args.self.now.lowerer.interfaces.now c.args.self.now.lowerer.prototypes.now) c.args.self.now.locals.now c.args.ss.now c.args.exits c.loop-k.k c.index.result.now _ (flow_of c.loop-k.b c.loop-k.p) (row (setting_of c.args.self.now.lowerer.shapes.now c.args.self.now.lowerer.interfaces.now c.args.self.now.lowerer.prototypes.now) c.args.self.now.locals.now c.args.ss.now c.args.exits (flow_of c.args.b.now c.args.p.now)) c.index.ensures c.in_err-left.ensures c.loop-k.invariant)

pub row-returns-then-left : goal.row-returns-then-left
row-returns-then-left t c =
    row_left (setting_of c.args.self.now.lowerer.shapes.now c.args.self.now.lowerer.interfaces.now c.args.self.now.lowerer.prototypes.now) c.args.self.now.locals.now c.args.ss.now c.args.exits c.loop-k.k c.index.result.now c.in_ok-left.left (flow_of c.loop-k.b c.loop-k.p) (flow_of c.statement.new.b c.statement.new.p) (row (setting_of c.args.self.now.lowerer.shapes.now c.args.self.now.lowerer.interfaces.now c.args.self.now.lowerer.prototypes.now) c.args.self.now.locals.now c.args.ss.now c.args.exits (flow_of c.args.b.now c.args.p.now)) c.index.ensures c.in_ok-left.ensures c.if-left.true c.loop-k.invariant

pub row-loop-k-preserved : goal.row-loop-k-preserved
row-loop-k-preserved t c =
    row_on (setting_of c.args.self.now.lowerer.shapes.now c.args.self.now.lowerer.interfaces.now c.args.self.now.lowerer.prototypes.now) c.args.self.now.locals.now c.args.ss.now c.args.exits c.loop-k.k c.index.result.now c.in_ok-left.left (flow_of c.loop-k.b c.loop-k.p) (flow_of c.statement.new.b c.statement.new.p) (row (setting_of c.args.self.now.lowerer.shapes.now c.args.self.now.lowerer.interfaces.now c.args.self.now.lowerer.prototypes.now) c.args.self.now.locals.now c.args.ss.now c.args.exits (flow_of c.args.b.now c.args.p.now)) c.index.ensures c.in_ok-left.ensures c.if-left.false c.loop-k.invariant

pub row-returns : goal.row-returns
row-returns t c = row_end (setting_of c.args.self.now.lowerer.shapes.now c.args.self.now.lowerer.interfaces.now c.args.self.now.lowerer.prototypes.now) c.args.self.now.locals.now c.args.ss.now c.args.exits c.loop-k.k (flow_of c.loop-k.b c.loop-k.p) (row (setting_of c.args.self.now.lowerer.shapes.now c.args.self.now.lowerer.interfaces.now c.args.self.now.lowerer.prototypes.now) c.args.self.now.locals.now c.args.ss.now c.args.exits (flow_of c.args.b.now c.args.p.now)) (omega (arith, c.loop-k-test.false, c.len-k-end.ensures)) c.loop-k.invariant

pub falls-returns-in_err-opening : goal.falls-returns-in_err-opening
falls-returns-in_err-opening t c =
    let p = err_from_is_err_and c.from_residual.result c.from_residual.ensures.1 in
    rw (p.1, p.2) (label_stops (setting_of c.args.self.now.lowerer.shapes.now c.args.self.now.lowerer.interfaces.now c.args.self.now.lowerer.prototypes.now) c.args.self.now.locals.now c.args.end c.args.labels.now c.args.arms.now c.args.exits c.loop-k.k c.label_at-label.result.now c.index-arm.result.now _ (flow_of c.loop-k.b c.loop-k.p) (falls (setting_of c.args.self.now.lowerer.shapes.now c.args.self.now.lowerer.interfaces.now c.args.self.now.lowerer.prototypes.now) c.args.self.now.locals.now c.args.end c.args.labels.now c.args.arms.now c.args.exits (flow_of c.args.b.now c.args.p.now)) c.label_at-label.ensures c.index-arm.ensures c.in_err-opening.ensures c.loop-k.invariant)

pub falls-returns-in_err-left : goal.falls-returns-in_err-left
falls-returns-in_err-left t c =
    let p = err_from_is_err_and c.from_residual-in_err-left.result c.from_residual-in_err-left.ensures.1 in
    rw (p.1, p.2) (body_stops (setting_of c.args.self.now.lowerer.shapes.now c.args.self.now.lowerer.interfaces.now c.args.self.now.lowerer.prototypes.now) c.args.self.now.locals.now c.args.end c.args.labels.now c.args.arms.now c.args.exits c.loop-k.k c.label_at-label.result.now c.index-arm.result.now c.in_switch.result _ _ (flow_of c.loop-k.b c.loop-k.p) (flow_of c.opening.new.b c.opening.new.p) (falls (setting_of c.args.self.now.lowerer.shapes.now c.args.self.now.lowerer.interfaces.now c.args.self.now.lowerer.prototypes.now) c.args.self.now.locals.now c.args.end c.args.labels.now c.args.arms.now c.args.exits (flow_of c.args.b.now c.args.p.now)) c.label_at-label.ensures c.index-arm.ensures c.in_ok-opening.ensures c.in_switch.ensures c.in_err-left.ensures c.loop-k.invariant)

pub falls-returns-in_err-seal : goal.falls-returns-in_err-seal
falls-returns-in_err-seal t c =
    let p = err_from_is_err_and c.from_residual-in_err-seal.result c.from_residual-in_err-seal.ensures.1 in
    rw (p.1, p.2) (seal_stops (setting_of c.args.self.now.lowerer.shapes.now c.args.self.now.lowerer.interfaces.now c.args.self.now.lowerer.prototypes.now) c.args.self.now.locals.now c.args.end c.args.labels.now c.args.arms.now c.args.exits c.loop-k.k c.label_at-label.result.now c.index-arm.result.now c.in_switch.result _ c.in_ok-left.left c.next_or.result _ (flow_of c.loop-k.b c.loop-k.p) (flow_of c.opening.new.b c.opening.new.p) (flow_of c.row.new.b c.row.new.p) (falls (setting_of c.args.self.now.lowerer.shapes.now c.args.self.now.lowerer.interfaces.now c.args.self.now.lowerer.prototypes.now) c.args.self.now.locals.now c.args.end c.args.labels.now c.args.arms.now c.args.exits (flow_of c.args.b.now c.args.p.now)) c.label_at-label.ensures c.index-arm.ensures c.in_ok-opening.ensures c.in_switch.ensures c.in_ok-left.ensures c.next_or.ensures c.in_err-seal.ensures c.loop-k.invariant)

pub falls-loop-k-preserved : goal.falls-loop-k-preserved
falls-loop-k-preserved t c =
    falls_on (setting_of c.args.self.now.lowerer.shapes.now c.args.self.now.lowerer.interfaces.now c.args.self.now.lowerer.prototypes.now) c.args.self.now.locals.now c.args.end c.args.labels.now c.args.arms.now c.args.exits c.loop-k.k c.label_at-label.result.now c.index-arm.result.now c.in_switch.result _ _ c.in_ok-left.left c.next_or.result (flow_of c.loop-k.b c.loop-k.p) (flow_of c.opening.new.b c.opening.new.p) (flow_of c.row.new.b c.row.new.p) (flow_of c.seal.new.b c.row.new.p) (falls (setting_of c.args.self.now.lowerer.shapes.now c.args.self.now.lowerer.interfaces.now c.args.self.now.lowerer.prototypes.now) c.args.self.now.locals.now c.args.end c.args.labels.now c.args.arms.now c.args.exits (flow_of c.args.b.now c.args.p.now)) c.label_at-label.ensures c.index-arm.ensures c.in_ok-opening.ensures c.in_switch.ensures c.in_ok-left.ensures c.next_or.ensures c.in_ok-seal.ensures c.loop-k.invariant

pub falls-returns : goal.falls-returns
falls-returns t c = falls_end (setting_of c.args.self.now.lowerer.shapes.now c.args.self.now.lowerer.interfaces.now c.args.self.now.lowerer.prototypes.now) c.args.self.now.locals.now c.args.end c.args.labels.now c.args.arms.now c.args.exits c.loop-k.k (flow_of c.loop-k.b c.loop-k.p) (falls (setting_of c.args.self.now.lowerer.shapes.now c.args.self.now.lowerer.interfaces.now c.args.self.now.lowerer.prototypes.now) c.args.self.now.locals.now c.args.end c.args.labels.now c.args.arms.now c.args.exits (flow_of c.args.b.now c.args.p.now)) (omega (arith, c.loop-k-test.false, c.len-k-end.ensures)) c.loop-k.invariant
