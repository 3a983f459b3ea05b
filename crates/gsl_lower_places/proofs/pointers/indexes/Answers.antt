use Rattle.std.proofs.lemmas.Result.{err_from_is_err_and}
use Rattle.gsl_lower_values.proofs.Rows.{ends, goes_on, stops}
use Rattle.gsl_lower_places.specs.Reading as spec
use Rattle.gsl_lower_places.proofs.pointers.indexes.Goals as goal

pub returns-in_err-index : goal.returns-in_err-index
returns-in_err-index c =
    let p = err_from_is_err_and c.from_residual.result c.from_residual.ensures.1 in
    rw (p.1, p.2) (stops spec.index c.args.parts.now c.loop-k.k _ c.loop-k.ids _ c.loop-k.b (spec.indexes c.args.parts.now c.args.b.now) c.part_at.ensures c.in_err-index.ensures c.loop-k.invariant)

pub loop-k-preserved : goal.loop-k-preserved
loop-k-preserved c =
    goes_on spec.index c.args.parts.now c.loop-k.k _ c.loop-k.ids c.push.new.self c.in_ok-index.field-0 c.loop-k.b c.index.new.b (spec.indexes c.args.parts.now c.args.b.now) c.part_at.ensures c.in_ok-index.ensures c.in_ok-push.ensures.ok c.loop-k.invariant

pub returns : goal.returns
returns c = ends spec.index c.args.parts.now c.loop-k.k c.loop-k.ids c.loop-k.b _ c.loop-k-test.false c.loop-k.invariant
