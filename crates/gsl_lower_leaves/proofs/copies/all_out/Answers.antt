use Rattle.std.proofs.lemmas.Result.{err_from_is_err_and}
use Rattle.gsl_lower_leaves.specs.Copies as spec
use Rattle.gsl_lower_leaves.proofs.Rows.{ends, goes_on, stops}
use Rattle.gsl_lower_leaves.proofs.copies.all_out.Goals as goal

pub returns-in_err-copied_out : goal.returns-in_err-copied_out
returns-in_err-copied_out c =
    let p = err_from_is_err_and c.from_residual.result c.from_residual.ensures.1 in
    rw (p.1, p.2) (stops (spec.copied_out c.args.block c.args.class c.args.parts.now c.args.variable) c.args.leaves.now c.loop-k.k _ _ c.loop-k.b (spec.each (spec.copied_out c.args.block c.args.class c.args.parts.now c.args.variable) c.args.leaves.now c.args.b.now)
    c.leaf_at.ensures c.in_err-copied_out.ensures c.loop-k.invariant)

pub loop-k-preserved : goal.loop-k-preserved
loop-k-preserved c =
    goes_on (spec.copied_out c.args.block c.args.class c.args.parts.now c.args.variable) c.args.leaves.now c.loop-k.k _ c.loop-k.b c.copied_out.new.b (spec.each (spec.copied_out c.args.block c.args.class c.args.parts.now c.args.variable) c.args.leaves.now c.args.b.now)
    c.leaf_at.ensures c.in_ok-copied_out.ensures c.loop-k.invariant

pub returns : goal.returns
returns c = ends (spec.copied_out c.args.block c.args.class c.args.parts.now c.args.variable) c.args.leaves.now c.loop-k.k c.loop-k.b _ c.loop-k-test.false c.loop-k.invariant
