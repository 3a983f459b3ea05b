use Rattle.std.proofs.Common.{arith, sym, ◌∙◌, ap}
use Rattle.std.proofs.lemmas.Result.{err_from_is_err_and}
use Rattle.gsl_lower_values.specs.Building.{in_order}
use Rattle.gsl_lower_values.specs.Constructors as spec
use Rattle.gsl_lower_values.proofs.Rows.{ends, goes_on, stops}
use Rattle.gsl_lower_values.proofs.constructors.parts.Goals as goal

pub returns-in_err-share : goal.returns-in_err-share
returns-in_err-share c =
    let p = err_from_is_err_and c.from_residual-in_err-share.result c.from_residual-in_err-share.ensures.1 in
    rw (p.1, p.2, sym c.in_ok-all.ensures) (stops (spec.share c.args.s) c.in_ok-all.all c.loop-k.k c.index.result.now c.loop-k.ids _ c.loop-k.b (in_order (spec.share c.args.s) c.in_ok-all.all c.args.b.now) c.index.ensures c.in_err-share.ensures c.loop-k.invariant)

pub loop-k-preserved : goal.loop-k-preserved
loop-k-preserved c =
    goes_on (spec.share c.args.s) c.in_ok-all.all c.loop-k.k c.index.result.now c.loop-k.ids c.push.new.self c.in_ok-share.field-0 c.loop-k.b c.share.new.b _ c.index.ensures c.in_ok-share.ensures c.in_ok-push.ensures.ok c.loop-k.invariant

pub returns : goal.returns
returns c =
    ap (λ l. in_order (spec.share c.args.s) l c.args.b.now) (sym c.in_ok-all.ensures)
    ∙ ends (spec.share c.args.s) c.in_ok-all.all c.loop-k.k c.loop-k.ids c.loop-k.b _ (omega (arith, c.loop-k-test.false, c.len-k-end.ensures)) c.loop-k.invariant
