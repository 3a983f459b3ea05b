use Rattle.std.proofs.Common.{◌≡◌, ◌∷◌, ◌++◌, drop, map}
use Rattle.gsl_lower_stmt.specs.Coming.{words_in}
use Rattle.gsl_lower_stmt.specs.Parts.{targets}
use Rattle.gsl_lower_stmt.proofs.switches.operands.Given as goal

abbrev pub invariant-loop-k : goal.invariant-loop-k
invariant-loop-k l = l.args ++ targets (map words_in (drop l.k l.arms)) (drop l.k l.labels) ≡ l.x ∷ l.default ∷ targets (map words_in l.arms) l.labels
