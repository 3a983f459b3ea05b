use Rattle.std.proofs.Common.{arith}
use Rattle.std.proofs.lemmas.Result.{err_from_is_err_and}
use Rattle.gsl_lower_expr.specs.Coming.{keeps_all, passes_all, sequence_of, setting_of}
use Rattle.gsl_lower_holders.specs.Flow.{flow_of}
use Rattle.gsl_lower_expr.proofs.Passing.{all_passed, pass_stops, passed_on}
use Rattle.gsl_lower_expr.proofs.Turns.{hold_stops, kept_all, kept_on, last_is, next_on, next_stops, value_stops}
use Rattle.gsl_lower_expr.proofs.lowerer.Lowerer.+expressions.Goals as goal

pub keeps-returns-in_err-x : goal.keeps-returns-in_err-x
keeps-returns-in_err-x t c =
    let p = err_from_is_err_and c.from_residual-in_err-x.result c.from_residual-in_err-x.ensures.1 in
    rw (p.1, p.2) (value_stops (setting_of c.args.self.now.shapes.now c.args.self.now.interfaces.now c.args.self.now.prototypes.now) c.args.es.now c.loop-k.k c.index-in-loop-k.result.now c.index.result.now c.loop-k.left c.in_ok-left-2.left c.loop-k.kept _ (flow_of c.loop-k.b c.loop-k.p)
    (keeps_all (setting_of c.args.self.now.shapes.now c.args.self.now.interfaces.now c.args.self.now.prototypes.now) c.args.es.now (flow_of c.args.b.now c.args.p.now)) c.index-in-loop-k.ensures c.index.ensures c.in_ok-left-2.ensures c.in_err-x.ensures c.loop-k.invariant)

pub keeps-returns-in_err-hold : goal.keeps-returns-in_err-hold
keeps-returns-in_err-hold t c =
    let p = err_from_is_err_and c.from_residual-in_err-hold.result c.from_residual-in_err-hold.ensures.1 in
    rw (p.1, p.2) (hold_stops (setting_of c.args.self.now.shapes.now c.args.self.now.interfaces.now c.args.self.now.prototypes.now) c.args.es.now c.loop-k.k c.index-in-loop-k.result.now c.index.result.now c.loop-k.left c.in_ok-left-2.left c.in_ok-x.x c.loop-k.kept _ (flow_of c.loop-k.b c.loop-k.p) (flow_of c.value.new.b c.value.new.p)
    (keeps_all (setting_of c.args.self.now.shapes.now c.args.self.now.interfaces.now c.args.self.now.prototypes.now) c.args.es.now (flow_of c.args.b.now c.args.p.now)) c.index-in-loop-k.ensures c.index.ensures c.in_ok-left-2.ensures c.in_ok-x.ensures c.in_err-hold.ensures c.loop-k.invariant)

pub keeps-loop-k-preserved : goal.keeps-loop-k-preserved
keeps-loop-k-preserved t c =
    kept_on (setting_of c.args.self.now.shapes.now c.args.self.now.interfaces.now c.args.self.now.prototypes.now) c.args.es.now c.loop-k.k c.index-in-loop-k.result.now c.index.result.now c.loop-k.left c.in_ok-left-2.left c.in_ok-x.x c.in_ok-hold.field-0 c.loop-k.kept c.push.new.self (flow_of c.loop-k.b c.loop-k.p) (flow_of c.value.new.b c.value.new.p)
    (flow_of c.hold.new.b c.hold.new.p) (keeps_all (setting_of c.args.self.now.shapes.now c.args.self.now.interfaces.now c.args.self.now.prototypes.now) c.args.es.now (flow_of c.args.b.now c.args.p.now)) c.index-in-loop-k.ensures c.index.ensures c.in_ok-left-2.ensures c.in_ok-x.ensures c.in_ok-hold.ensures c.in_ok-push.ensures.ok c.loop-k.invariant

pub keeps-returns : goal.keeps-returns
keeps-returns t c = kept_all (setting_of c.args.self.now.shapes.now c.args.self.now.interfaces.now c.args.self.now.prototypes.now) c.args.es.now c.loop-k.k c.loop-k.kept (flow_of c.loop-k.b c.loop-k.p) (keeps_all (setting_of c.args.self.now.shapes.now c.args.self.now.interfaces.now c.args.self.now.prototypes.now) c.args.es.now (flow_of c.args.b.now c.args.p.now)) (omega (arith, c.loop-k-test.false, c.len-k-end.ensures)) c.loop-k.invariant.1

pub sequence-returns-in_err-last : goal.sequence-returns-in_err-last
sequence-returns-in_err-last t c =
    let p = err_from_is_err_and c.from_residual.result c.from_residual.ensures.1 in
    rw (p.1, p.2) (next_stops (setting_of c.args.self.now.shapes.now c.args.self.now.interfaces.now c.args.self.now.prototypes.now) c.args.items.now c.loop-k.k c.index.result.now c.loop-k.last _ (flow_of c.loop-k.b c.loop-k.p) (sequence_of (setting_of c.args.self.now.shapes.now c.args.self.now.interfaces.now c.args.self.now.prototypes.now) 0 c.args.items.now (flow_of c.args.b.now c.args.p.now)) c.index.ensures c.in_err-last.ensures c.loop-k.invariant)

pub sequence-loop-k-preserved : goal.sequence-loop-k-preserved
sequence-loop-k-preserved t c =
    next_on (setting_of c.args.self.now.shapes.now c.args.self.now.interfaces.now c.args.self.now.prototypes.now) c.args.items.now c.loop-k.k c.index.result.now c.loop-k.last c.in_ok-last.last (flow_of c.loop-k.b c.loop-k.p) (flow_of c.value.new.b c.value.new.p) (sequence_of (setting_of c.args.self.now.shapes.now c.args.self.now.interfaces.now c.args.self.now.prototypes.now) 0 c.args.items.now (flow_of c.args.b.now c.args.p.now)) c.index.ensures c.in_ok-last.ensures c.loop-k.invariant

pub sequence-returns : goal.sequence-returns
sequence-returns t c = last_is (setting_of c.args.self.now.shapes.now c.args.self.now.interfaces.now c.args.self.now.prototypes.now) c.args.items.now c.loop-k.k c.loop-k.last (flow_of c.loop-k.b c.loop-k.p) (sequence_of (setting_of c.args.self.now.shapes.now c.args.self.now.interfaces.now c.args.self.now.prototypes.now) 0 c.args.items.now (flow_of c.args.b.now c.args.p.now)) (omega (arith, c.loop-k-test.false, c.len-k-end.ensures)) c.loop-k.invariant

pub passes_all-returns-in_err-one : goal.passes_all-returns-in_err-one
passes_all-returns-in_err-one t c =
    let p = err_from_is_err_and c.from_residual-in_err-one.result c.from_residual-in_err-one.ensures.1 in
    rw (p.1, p.2) (pass_stops (setting_of c.args.self.now.shapes.now c.args.self.now.interfaces.now c.args.self.now.prototypes.now) c.args.es.now c.args.params.now c.loop-k.k c.index-in-loop-k.result.now c.index.result.now c.param_at-param.result.now c.loop-k.left c.in_ok-left-2.left c.loop-k.passed _ (flow_of c.loop-k.b c.loop-k.p)
    (passes_all (setting_of c.args.self.now.shapes.now c.args.self.now.interfaces.now c.args.self.now.prototypes.now) c.args.es.now c.args.params.now (flow_of c.args.b.now c.args.p.now)) c.index-in-loop-k.ensures c.index.ensures c.param_at-param.ensures c.in_ok-left-2.ensures c.in_err-one.ensures c.loop-k.invariant)

pub passes_all-loop-k-preserved : goal.passes_all-loop-k-preserved
passes_all-loop-k-preserved t c =
    passed_on (setting_of c.args.self.now.shapes.now c.args.self.now.interfaces.now c.args.self.now.prototypes.now) c.args.es.now c.args.params.now c.loop-k.k c.index-in-loop-k.result.now c.index.result.now c.param_at-param.result.now c.loop-k.left c.in_ok-left-2.left c.in_ok-one.one c.loop-k.passed c.push.new.self (flow_of c.loop-k.b c.loop-k.p) (flow_of c.passes.new.b c.passes.new.p)
    (passes_all (setting_of c.args.self.now.shapes.now c.args.self.now.interfaces.now c.args.self.now.prototypes.now) c.args.es.now c.args.params.now (flow_of c.args.b.now c.args.p.now)) c.index-in-loop-k.ensures c.index.ensures c.param_at-param.ensures c.in_ok-left-2.ensures c.in_ok-one.ensures c.in_ok-push.ensures.ok c.loop-k.invariant

pub passes_all-returns : goal.passes_all-returns
passes_all-returns t c = all_passed (setting_of c.args.self.now.shapes.now c.args.self.now.interfaces.now c.args.self.now.prototypes.now) c.args.es.now c.args.params.now c.loop-k.k c.loop-k.passed (flow_of c.loop-k.b c.loop-k.p) (passes_all (setting_of c.args.self.now.shapes.now c.args.self.now.interfaces.now c.args.self.now.prototypes.now) c.args.es.now c.args.params.now (flow_of c.args.b.now c.args.p.now)) (omega (arith, c.loop-k-test.false, c.len-k-end.ensures)) c.loop-k.invariant.1
