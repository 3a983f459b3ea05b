use Rattle.std.proofs.Common.{sym, ◌∙◌}
use Rattle.gsl_overload.proofs.Walks.{once_better_at, or_on, or_stops}
use Rattle.gsl_overload.proofs.fits.once_better.Goals as goal

pub returns-then-is_better : goal.returns-then-is_better
returns-then-is_better c =
    or_stops _ _ _ _ (sym c.is_better.ensures ∙ c.if-is_better.true)
    (once_better_at c.args.args.now c.args.first.now c.args.second.now c.loop-k.k c.index.result.now c.index-in-loop-k.result.now c.index-in-loop-k-2.result.now c.index.ensures c.index-in-loop-k.ensures c.index-in-loop-k-2.ensures)
    c.loop-k.invariant

pub loop-k-preserved : goal.loop-k-preserved
loop-k-preserved c =
    or_on _ _ _ _ (sym c.is_better.ensures ∙ c.if-is_better.false)
    (once_better_at c.args.args.now c.args.first.now c.args.second.now c.loop-k.k c.index.result.now c.index-in-loop-k.result.now c.index-in-loop-k-2.result.now c.index.ensures c.index-in-loop-k.ensures c.index-in-loop-k-2.ensures)
    c.loop-k.invariant
