use Rattle.std.proofs.Common.{◌≡◌, ◌++◌, drop, map}
use Rattle.gsl_tree.specs.Values.{word_in}
use Rattle.gsl_lower_expr.proofs.names.words_in.Given as goal

abbrev pub invariant-loop-k : goal.invariant-loop-k
invariant-loop-k l = l.words ++ map word_in (drop l.k l.values) ≡ map word_in l.values
