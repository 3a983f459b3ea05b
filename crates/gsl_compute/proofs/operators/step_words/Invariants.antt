use Rattle.std.proofs.Common.{◌≡◌, map, drop, ◌++◌}
use Rattle.gsl_tree.specs.Operations.{step_word}
use Rattle.gsl_compute.proofs.operators.step_words.Given as goal

abbrev pub invariant-loop-k : goal.invariant-loop-k
invariant-loop-k l = l.given ++ map (step_word l.op) (drop l.k l.words) ≡ map (step_word l.op) l.words
