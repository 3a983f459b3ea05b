use Rattle.std.proofs.Common.{◌≡◌, ◌++◌, drop}
use Rattle.gsl_link_structs.specs.Keys as spec
use Rattle.gsl_link_structs.proofs.key.push_spelling.Given as goal

abbrev pub invariant-loop-k : goal.invariant-loop-k
invariant-loop-k l = l.words ++ spec.spelling_words (drop l.k l.name) ≡ l.initial.words ++ spec.spelling_words l.name
