use Rattle.std.proofs.lemmas.Result.{err_from_is_err_and}
use Rattle.gsl_lower_holders.specs.Flow.{each, flow_of}
use Rattle.gsl_lower_holders.specs.Waiting as spec
use Rattle.gsl_lower_holders.proofs.Turns.{ends, goes_on, stops}
use Rattle.gsl_lower_holders.proofs.waiting.keep_parts.Goals as goal

pub returns-in_err-keep_part : goal.returns-in_err-keep_part
returns-in_err-keep_part c =
    let p = err_from_is_err_and c.from_residual.result c.from_residual.ensures.1 in
    rw (p.1, p.2) (stops spec.keep_part c.args.parts.now c.loop-k.k _ c.loop-k.all _ (flow_of c.loop-k.b c.loop-k.p) (each spec.keep_part c.args.parts.now (flow_of c.args.b.now c.args.p.now)) c.part_at.ensures c.in_err-keep_part.ensures c.loop-k.invariant)

pub loop-k-preserved : goal.loop-k-preserved
loop-k-preserved c =
    goes_on spec.keep_part c.args.parts.now c.loop-k.k _ c.loop-k.all c.push.new.self c.in_ok-keep_part.field-0 (flow_of c.loop-k.b c.loop-k.p) (flow_of c.keep_part.new.b c.keep_part.new.p) (each spec.keep_part c.args.parts.now (flow_of c.args.b.now c.args.p.now))
    c.part_at.ensures c.in_ok-keep_part.ensures c.in_ok-push.ensures.ok c.loop-k.invariant

pub returns : goal.returns
returns c = ends spec.keep_part c.args.parts.now c.loop-k.k c.loop-k.all (flow_of c.loop-k.b c.loop-k.p) _ c.loop-k-test.false c.loop-k.invariant
