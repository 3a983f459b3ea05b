use Rattle.std.proofs.Common.{◌≡◌, ◌++◌, drop}
use Rattle.gsl_lower_stmt.specs.Parts.{pairs}
use Rattle.gsl_lower_stmt.proofs.switches.put_pairs.Given as goal

abbrev pub invariant-loop-k : goal.invariant-loop-k
invariant-loop-k l = l.args ++ pairs l.label (drop l.k l.words) ≡ l.initial.args ++ pairs l.label l.words
