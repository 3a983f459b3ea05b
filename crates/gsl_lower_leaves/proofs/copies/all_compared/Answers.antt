use Rattle.std.proofs.Common.{drop}
use Rattle.std.proofs.lemmas.Result.{err_from_is_err_and}
use Rattle.gsl_lower_leaves.specs.Copies as spec
use Rattle.gsl_lower_leaves.proofs.Rows.{compares_end, compares_on, compares_stop}
use Rattle.gsl_lower_leaves.proofs.copies.all_compared.Goals as goal

pub returns-in_err-so_far : goal.returns-in_err-so_far
returns-in_err-so_far c =
    let p = err_from_is_err_and c.from_residual.result c.from_residual.ensures.1 in
    rw (p.1, p.2) (compares_stop c.args.which c.args.left c.args.right c.args.leaves.now c.loop-k.k _ c.loop-k.so_far _ c.loop-k.b (spec.all_compared c.args.which c.args.left c.args.right c.args.first (drop 1 c.args.leaves.now) c.args.b.now)
    c.leaf_at.ensures c.in_err-so_far.ensures c.loop-k.invariant)

pub loop-k-preserved : goal.loop-k-preserved
loop-k-preserved c =
    compares_on c.args.which c.args.left c.args.right c.args.leaves.now c.loop-k.k _ c.loop-k.so_far c.in_ok-so_far.so_far c.loop-k.b c.one_more.new.b (spec.all_compared c.args.which c.args.left c.args.right c.args.first (drop 1 c.args.leaves.now) c.args.b.now)
    c.leaf_at.ensures c.in_ok-so_far.ensures c.loop-k.invariant

pub returns : goal.returns
returns c = compares_end c.args.which c.args.left c.args.right c.args.leaves.now c.loop-k.k c.loop-k.so_far c.loop-k.b _ c.loop-k-test.false c.loop-k.invariant
