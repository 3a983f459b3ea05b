use Rattle.std.proofs.Common.{◌≡◌, map, drop, ◌++◌}
use Rattle.gsl_values.specs.Operators.{unary_word}
use Rattle.gsl_compute.proofs.operators.unary_words.Given as goal

abbrev pub invariant-loop-k : goal.invariant-loop-k
invariant-loop-k l = l.given ++ map (unary_word l.op) (drop l.k l.words) ≡ map (unary_word l.op) l.words
