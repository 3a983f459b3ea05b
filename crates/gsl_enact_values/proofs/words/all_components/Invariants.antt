use Rattle.std.proofs.Common.{◌≡◌, drop, ◌++◌}
use Rattle.gsl_tree.specs.Operations.{all_components}
use Rattle.gsl_enact_values.proofs.words.all_components.Given as goal

abbrev pub invariant-loop-k : goal.invariant-loop-k
invariant-loop-k l = l.words ++ all_components (drop l.k l.values) ≡ all_components l.values
