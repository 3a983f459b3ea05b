use Rattle.std.proofs.Common.{arith}
use Rattle.std.proofs.lemmas.Result.{err_from_is_err_and}
use Rattle.gsl_lower_holders.specs.Flow.{each, flow_of}
use Rattle.gsl_lower_holders.proofs.Turns.{ends, goes_on, stops}
use Rattle.gsl_lower_flow.specs.Functions.{variable}
use Rattle.gsl_lower_flow.proofs.functions.variables.Goals as goal

pub returns-in_err-variable : goal.returns-in_err-variable
returns-in_err-variable c =
    let p = err_from_is_err_and c.from_residual.result c.from_residual.ensures.1 in
    rw (p.1, p.2) (stops variable c.args.types.now c.loop-k.k _ c.loop-k.ids _ (flow_of c.loop-k.b c.args.p.now) (each variable c.args.types.now (flow_of c.args.b.now c.args.p.now)) c.type_at.ensures c.in_err-variable.ensures c.loop-k.invariant)

pub loop-k-preserved : goal.loop-k-preserved
loop-k-preserved c =
    goes_on variable c.args.types.now c.loop-k.k _ c.loop-k.ids c.push.new.self c.in_ok-variable.field-0 (flow_of c.loop-k.b c.args.p.now) (flow_of c.variable.new.b c.args.p.now) (each variable c.args.types.now (flow_of c.args.b.now c.args.p.now))
    c.type_at.ensures c.in_ok-variable.ensures c.in_ok-push.ensures.ok c.loop-k.invariant

pub returns : goal.returns
returns c = ends variable c.args.types.now c.loop-k.k c.loop-k.ids (flow_of c.loop-k.b c.args.p.now) _ (omega (arith, c.loop-k-test.false, c.len-k-end.ensures)) c.loop-k.invariant
