use Rattle.std.proofs.Common.{arith}
use Rattle.std.proofs.lemmas.Result.{err_from_is_err_and}
use Rattle.gsl_lower_holders.specs.Flow.{each, flow_of}
use Rattle.gsl_lower_holders.proofs.Turns.{ends, goes_on, stops}
use Rattle.gsl_lower_flow.specs.Functions.{parameter_type}
use Rattle.gsl_lower_flow.proofs.functions.parameter_types.Goals as goal

pub returns-in_err-parameter_type : goal.returns-in_err-parameter_type
returns-in_err-parameter_type c =
    let p = err_from_is_err_and c.from_residual.result c.from_residual.ensures.1 in
    rw (p.1, p.2) (stops parameter_type c.args.params.now c.loop-k.k _ c.loop-k.ids _ (flow_of c.loop-k.b c.args.p.now) (each parameter_type c.args.params.now (flow_of c.args.b.now c.args.p.now)) c.param_at.ensures c.in_err-parameter_type.ensures c.loop-k.invariant)

pub loop-k-preserved : goal.loop-k-preserved
loop-k-preserved c =
    goes_on parameter_type c.args.params.now c.loop-k.k _ c.loop-k.ids c.push.new.self c.in_ok-parameter_type.field-0 (flow_of c.loop-k.b c.args.p.now) (flow_of c.parameter_type.new.b c.args.p.now) (each parameter_type c.args.params.now (flow_of c.args.b.now c.args.p.now))
    c.param_at.ensures c.in_ok-parameter_type.ensures c.in_ok-push.ensures.ok c.loop-k.invariant

pub returns : goal.returns
returns c = ends parameter_type c.args.params.now c.loop-k.k c.loop-k.ids (flow_of c.loop-k.b c.args.p.now) _ (omega (arith, c.loop-k-test.false, c.len-k-end.ensures)) c.loop-k.invariant
