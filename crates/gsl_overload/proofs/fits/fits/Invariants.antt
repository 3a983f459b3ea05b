use Rattle.std.proofs.Common.{◌≡◌, length, drop}
use Rattle.gsl_overload.specs.Best.{fits}
use Rattle.gsl_overload.proofs.fits.fits.Given as goal

abbrev pub invariant-loop-k : goal.invariant-loop-k
invariant-loop-k l = (length l.params ≡ length l.args) × (fits (drop l.k l.args) (drop l.k l.params) ≡ fits l.args l.params)
