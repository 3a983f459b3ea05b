use Rattle.std.proofs.Common.{◌≡◌, drop}
use Rattle.gsl_tree.specs.Operations.{value_at}
use Rattle.gsl_enact_values.proofs.paths.follow.Given as goal

abbrev pub invariant-loop-k : goal.invariant-loop-k
invariant-loop-k l = value_at l.at (drop l.k l.path) ≡ value_at l.initial.at l.path
