use Rattle.std.proofs.Common.{◌≡◌, ◌++◌, drop}
use Rattle.gsl_link_structs.specs.Keys as spec
use Rattle.gsl_link_structs.proofs.key.push_params.Given as goal

abbrev pub invariant-loop-k : goal.invariant-loop-k
invariant-loop-k l = l.words ++ spec.params_words (drop l.k l.params) ≡ l.initial.words ++ spec.params_words l.params
