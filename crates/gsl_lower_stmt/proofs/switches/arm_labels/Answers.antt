use Rattle.std.proofs.Common.{arith}
use Rattle.std.proofs.lemmas.Result.{err_from_is_err_and}
use Rattle.gsl_lower_holders.specs.Flow.{flow_of}
use Rattle.gsl_lower_stmt.proofs.Targets.{fresh_each, labels_end, labels_on, labels_stop}
use Rattle.gsl_lower_stmt.proofs.switches.arm_labels.Goals as goal

pub returns-in_err-fresh_id : goal.returns-in_err-fresh_id
returns-in_err-fresh_id c =
    let p = err_from_is_err_and c.from_residual.result c.from_residual.ensures.1 in
    rw (p.1, p.2) (labels_stop c.args.arms.now c.loop-k.k c.arm_at-arm.result.now c.loop-k.labels _ (flow_of c.loop-k.b c.args.p.now) (fresh_each c.args.arms.now (flow_of c.args.b.now c.args.p.now)) c.arm_at-arm.ensures c.in_err-fresh_id.ensures c.loop-k.invariant)

pub loop-k-preserved : goal.loop-k-preserved
loop-k-preserved c =
    labels_on c.args.arms.now c.loop-k.k c.arm_at-arm.result.now c.loop-k.labels c.push.new.self c.in_ok-fresh_id.field-0 (flow_of c.loop-k.b c.args.p.now) (flow_of c.fresh_id.new.b c.args.p.now) (fresh_each c.args.arms.now (flow_of c.args.b.now c.args.p.now))
    c.arm_at-arm.ensures c.in_ok-fresh_id.ensures c.in_ok-push.ensures.ok c.loop-k.invariant

pub returns : goal.returns
returns c = labels_end c.args.arms.now c.loop-k.k c.loop-k.labels (flow_of c.loop-k.b c.args.p.now) _ (omega (arith, c.loop-k-test.false, c.len-k-end.ensures)) c.loop-k.invariant
