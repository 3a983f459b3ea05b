use Rattle.std.proofs.Common.{◌≡◌, drop}
use Rattle.gsl_overload.specs.Best.{never_worse}
use Rattle.gsl_overload.proofs.fits.never_worse.Given as goal

abbrev pub invariant-loop-k : goal.invariant-loop-k
invariant-loop-k l = never_worse (drop l.k l.args) (drop l.k l.first) (drop l.k l.second) ≡ never_worse l.args l.first l.second
