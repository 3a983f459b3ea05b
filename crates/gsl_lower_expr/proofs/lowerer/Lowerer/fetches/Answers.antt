use Rattle.std.proofs.Common.{arith}
use Rattle.std.proofs.lemmas.Result.{err_from_is_err_and}
use Rattle.gsl_lower_holders.specs.Flow.{flow_of}
use Rattle.gsl_lower_expr.specs.Rows as rows
use Rattle.gsl_lower_expr.proofs.Turns.{fetch_stops, fetched_all, fetched_on}
use Rattle.gsl_lower_expr.proofs.lowerer.Lowerer.fetches.Goals as goal

pub returns-in_err-fetch : goal.returns-in_err-fetch
returns-in_err-fetch c =
    let p = err_from_is_err_and c.from_residual-in_err-fetch.result c.from_residual-in_err-fetch.ensures.1 in
    rw (p.1, p.2) (fetch_stops c.args.es.now c.args.kept.now c.loop-k.k c.expr_at-e.result.now c.id_at.result.now c.loop-k.left c.in_ok-left-2.left c.loop-k.ids _ (flow_of c.loop-k.b c.args.p.now)
    (rows.fetches_all c.args.es.now c.args.kept.now (flow_of c.args.b.now c.args.p.now)) c.expr_at-e.ensures c.id_at.ensures c.in_ok-left-2.ensures c.in_err-fetch.ensures c.loop-k.invariant)

pub loop-k-preserved : goal.loop-k-preserved
loop-k-preserved c =
    fetched_on c.args.es.now c.args.kept.now c.loop-k.k c.expr_at-e.result.now c.id_at.result.now c.loop-k.left c.in_ok-left-2.left c.in_ok-fetch.field-0 c.loop-k.ids c.push.new.self (flow_of c.loop-k.b c.args.p.now) (flow_of c.fetch.new.b c.args.p.now)
    (rows.fetches_all c.args.es.now c.args.kept.now (flow_of c.args.b.now c.args.p.now)) c.expr_at-e.ensures c.id_at.ensures c.in_ok-left-2.ensures c.in_ok-fetch.ensures c.in_ok-push.ensures.ok c.loop-k.invariant

pub returns : goal.returns
returns c =
    fetched_all c.args.es.now c.args.kept.now c.loop-k.k c.loop-k.ids (flow_of c.loop-k.b c.args.p.now) _ (omega (arith, c.loop-k-test.false, c.min-k-end.ensures, c.len.ensures)) c.loop-k.invariant.1
