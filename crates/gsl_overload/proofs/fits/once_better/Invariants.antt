use Rattle.std.proofs.Common.{◌≡◌, drop}
use Rattle.gsl_overload.specs.Best.{once_better}
use Rattle.gsl_overload.proofs.fits.once_better.Given as goal

abbrev pub invariant-loop-k : goal.invariant-loop-k
invariant-loop-k l = once_better (drop l.k l.args) (drop l.k l.first) (drop l.k l.second) ≡ once_better l.args l.first l.second
