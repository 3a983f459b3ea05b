use Rattle.std.proofs.lemmas.Result.{err_from_is_err_and}
use Rattle.gsl_lower_holders.specs.Flow.{each, flow_of}
use Rattle.gsl_lower_holders.specs.Waiting as spec
use Rattle.gsl_lower_holders.proofs.Turns.{ends, goes_on, stops}
use Rattle.gsl_lower_holders.proofs.waiting.take_parts.Goals as goal

pub returns-in_err-take_part : goal.returns-in_err-take_part
returns-in_err-take_part c =
    let p = err_from_is_err_and c.from_residual.result c.from_residual.ensures.1 in
    rw (p.1, p.2) (stops spec.take_part c.args.parts.now c.loop-k.k _ c.loop-k.all _ (flow_of c.loop-k.b c.args.p.now) (each spec.take_part c.args.parts.now (flow_of c.args.b.now c.args.p.now)) c.part_at.ensures c.in_err-take_part.ensures c.loop-k.invariant)

pub loop-k-preserved : goal.loop-k-preserved
loop-k-preserved c =
    goes_on spec.take_part c.args.parts.now c.loop-k.k _ c.loop-k.all c.push.new.self c.in_ok-take_part.field-0 (flow_of c.loop-k.b c.args.p.now) (flow_of c.take_part.new.b c.args.p.now) (each spec.take_part c.args.parts.now (flow_of c.args.b.now c.args.p.now))
    c.part_at.ensures c.in_ok-take_part.ensures c.in_ok-push.ensures.ok c.loop-k.invariant

pub returns : goal.returns
returns c = ends spec.take_part c.args.parts.now c.loop-k.k c.loop-k.all (flow_of c.loop-k.b c.args.p.now) _ c.loop-k-test.false c.loop-k.invariant
