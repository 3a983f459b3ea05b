use Rattle.std.proofs.Common.{sym, ap, ◌∙◌, not}
use Rattle.gsl_overload.proofs.Walks.{never_worse_at, and_on, and_stops}
use Rattle.gsl_overload.proofs.fits.never_worse.Goals as goal

pub returns-then-is_better : goal.returns-then-is_better
returns-then-is_better c =
    and_stops _ _ _ _ (ap not (sym c.is_better.ensures ∙ c.if-is_better.true))
    (never_worse_at c.args.args.now c.args.first.now c.args.second.now c.loop-k.k c.index.result.now c.index-in-loop-k-2.result.now c.index-in-loop-k.result.now c.index.ensures c.index-in-loop-k-2.ensures c.index-in-loop-k.ensures)
    c.loop-k.invariant

pub loop-k-preserved : goal.loop-k-preserved
loop-k-preserved c =
    and_on _ _ _ _ (ap not (sym c.is_better.ensures ∙ c.if-is_better.false))
    (never_worse_at c.args.args.now c.args.first.now c.args.second.now c.loop-k.k c.index.result.now c.index-in-loop-k-2.result.now c.index-in-loop-k.result.now c.index.ensures c.index-in-loop-k-2.ensures c.index-in-loop-k.ensures)
    c.loop-k.invariant
