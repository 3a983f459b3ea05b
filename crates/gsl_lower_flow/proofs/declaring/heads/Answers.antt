use Rattle.std.proofs.Common.{arith}
use Rattle.std.proofs.lemmas.Result.{err_from_is_err_and}
use Rattle.gsl_tree.specs.declared.unit.Prototype.{Prototype}
use Rattle.gsl_spv.specs.Calls.{take}
use Rattle.gsl_lower_values.specs.Building.{id_by, in_order}
use Rattle.gsl_lower_values.proofs.Rows.{ends, goes_on, stops}
use Rattle.gsl_lower_flow.proofs.declaring.heads.Goals as goal

pub returns-in_err-fresh_id : goal.returns-in_err-fresh_id
returns-in_err-fresh_id c =
    let p = err_from_is_err_and c.from_residual.result c.from_residual.ensures.1 in
    rw (p.1, p.2) (stops (λ (one : Prototype). id_by take) c.args.prototypes.now c.loop-k.k _ c.loop-k.ids _ c.loop-k.b (in_order (λ (one : Prototype). id_by take) c.args.prototypes.now c.args.b.now) c.prototype_at-prototype.ensures c.in_err-fresh_id.ensures c.loop-k.invariant)

pub loop-k-preserved : goal.loop-k-preserved
loop-k-preserved c =
    goes_on (λ (one : Prototype). id_by take) c.args.prototypes.now c.loop-k.k _ c.loop-k.ids c.push.new.self c.in_ok-fresh_id.field-0 c.loop-k.b c.fresh_id.new.b (in_order (λ (one : Prototype). id_by take) c.args.prototypes.now c.args.b.now)
    c.prototype_at-prototype.ensures c.in_ok-fresh_id.ensures c.in_ok-push.ensures.ok c.loop-k.invariant

pub returns : goal.returns
returns c = ends (λ (one : Prototype). id_by take) c.args.prototypes.now c.loop-k.k c.loop-k.ids c.loop-k.b _ (omega (arith, c.loop-k-test.false, c.len-k-end.ensures)) c.loop-k.invariant
