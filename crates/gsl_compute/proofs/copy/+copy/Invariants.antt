use Rattle.std.proofs.Common.{◌≡◌, drop, ◌++◌}
use Rattle.gsl_compute.proofs.copy.+copy.Given as goal

abbrev pub invariant-copy_all-loop-k : goal.invariant-copy_all-loop-k
invariant-copy_all-loop-k l = l.copied ++ drop l.k l.values ≡ l.values
