use Rattle.std.proofs.Common.{◌≡◌, sym, ap, ◌∙◌, subst, length, ◌≤◌}
use Rattle.std.proofs.lemmas.Result.{err_from_is_err_and}
use Rattle.gsl_lower_values.specs.Constructors.{operand}
use Rattle.gsl_lower_places.specs.Writing as spec
use Rattle.gsl_lower_places.proofs.Rows.{ends, goes_on, stops}
use Rattle.gsl_lower_places.proofs.writing.each_at.Goals as goal

pub loop-k-init : goal.loop-k-init
loop-k-init c = ap (λ v. spec.each_from c.args.id c.args.class c.args.parts.now v 0 c.args.positions.now c.args.b.now) (c.operand-of.ensures ∙ ap (λ n. operand (c.args.shape.0, n) c.args.v) (c.in_ok-count.ensures))

pub returns-in_err-one_at : goal.returns-in_err-one_at
returns-in_err-one_at c =
    let p = err_from_is_err_and c.from_residual-in_err-one_at.result c.from_residual-in_err-one_at.ensures.1 in
    rw (p.1, p.2) (stops c.args.id c.args.class c.args.parts.now c.operand-of.result c.args.positions.now c.loop-k.k _ _ c.loop-k.b (spec.each_at c.args.id c.args.class c.args.shape c.args.positions.now c.args.parts.now c.args.v c.args.b.now)
    c.position_by_place.ensures c.in_err-one_at.ensures c.loop-k.invariant)

pub loop-k-preserved : goal.loop-k-preserved
loop-k-preserved c =
    goes_on c.args.id c.args.class c.args.parts.now c.operand-of.result c.args.positions.now c.loop-k.k _ c.loop-k.b c.one_at.new.b (spec.each_at c.args.id c.args.class c.args.shape c.args.positions.now c.args.parts.now c.args.v c.args.b.now)
    c.position_by_place.ensures c.in_ok-one_at.ensures c.loop-k.invariant

pub returns : goal.returns
returns c =
    ends c.args.id c.args.class c.args.parts.now c.operand-of.result c.args.positions.now c.loop-k.k c.loop-k.b _ (subst (λ n. n ≤ c.loop-k.k) (c.in_ok-count.ensures) c.loop-k-test.false) c.loop-k.invariant
