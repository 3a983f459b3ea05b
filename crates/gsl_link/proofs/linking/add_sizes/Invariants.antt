use Rattle.std.proofs.Common.{◌≡◌, ◌++◌, take}
use Rattle.gsl_link.proofs.linking.add_sizes.Given as goal

abbrev pub invariant-loop-k : goal.invariant-loop-k
invariant-loop-k l = l.all ≡ l.initial.all ++ take l.k l.sizes
