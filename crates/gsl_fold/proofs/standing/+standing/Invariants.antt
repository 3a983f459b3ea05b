use Rattle.std.proofs.Common.{◌≡◌, drop}
use Rattle.gsl_tree.specs.Constants.{worse, standings}
use Rattle.gsl_fold.proofs.standing.+standing.Given as goal

abbrev pub invariant-of_all-loop-k : goal.invariant-of_all-loop-k
invariant-of_all-loop-k l = worse l.worst (standings l.consts (drop l.k l.es)) ≡ standings l.consts l.es
