use Rattle.std.proofs.Common.{sym, ◌∙◌}
use Rattle.gsl_overload.proofs.Walks.{fits_at, no_fit, and_on, and_stops}
use Rattle.gsl_overload.proofs.fits.fits.Goals as goal

pub returns-then-len : goal.returns-then-len
returns-then-len c = no_fit c.args.args.now c.args.params.now (λ same. c.if-len.true (c.len.ensures ∙ same ∙ sym c.len-2.ensures))

pub returns-then-not-fits_param : goal.returns-then-not-fits_param
returns-then-not-fits_param c =
    and_stops _ _ _ _ (sym c.fits_param.ensures ∙ c.if-not-fits_param.true)
    (fits_at c.args.args.now c.args.params.now c.loop-k.k c.index-in-loop-k.result.now c.index.result.now c.index-in-loop-k.ensures c.index.ensures) c.loop-k.invariant.1

pub loop-k-preserved : goal.loop-k-preserved
loop-k-preserved c = (
  c.loop-k.invariant.0,
  and_on _ _ _ _ (sym c.fits_param.ensures ∙ c.if-not-fits_param.false)
      (fits_at c.args.args.now c.args.params.now c.loop-k.k c.index-in-loop-k.result.now c.index.result.now c.index-in-loop-k.ensures c.index.ensures) c.loop-k.invariant.1,
)
