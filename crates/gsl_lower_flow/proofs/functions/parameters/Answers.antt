use Rattle.std.proofs.lemmas.Result.{err_from_is_err_and}
use Rattle.gsl_lower_holders.specs.Flow.{each, flow_of}
use Rattle.gsl_lower_holders.proofs.Turns.{ends, goes_on, stops}
use Rattle.gsl_lower_flow.specs.Functions.{parameter}
use Rattle.gsl_lower_flow.proofs.functions.parameters.Goals as goal

pub returns-in_err-parameter : goal.returns-in_err-parameter
returns-in_err-parameter c =
    let p = err_from_is_err_and c.from_residual.result c.from_residual.ensures.1 in
    rw (p.1, p.2) (stops parameter c.args.pointers.now c.loop-k.k _ c.loop-k.ids _ (flow_of c.loop-k.b c.args.p.now) (each parameter c.args.pointers.now (flow_of c.args.b.now c.args.p.now)) c.id_at.ensures c.in_err-parameter.ensures c.loop-k.invariant)

pub loop-k-preserved : goal.loop-k-preserved
loop-k-preserved c =
    goes_on parameter c.args.pointers.now c.loop-k.k _ c.loop-k.ids c.push.new.self c.in_ok-parameter.field-0 (flow_of c.loop-k.b c.args.p.now) (flow_of c.parameter.new.b c.args.p.now) (each parameter c.args.pointers.now (flow_of c.args.b.now c.args.p.now))
    c.id_at.ensures c.in_ok-parameter.ensures c.in_ok-push.ensures.ok c.loop-k.invariant

pub returns : goal.returns
returns c = ends parameter c.args.pointers.now c.loop-k.k c.loop-k.ids (flow_of c.loop-k.b c.args.p.now) _ c.loop-k-test.false c.loop-k.invariant
