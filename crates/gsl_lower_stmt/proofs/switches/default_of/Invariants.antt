use Rattle.std.proofs.Common.{◌≡◌, drop, map}
use Rattle.gsl_lower_stmt.specs.Coming.{default_in}
use Rattle.gsl_lower_stmt.specs.Parts.{default_of}
use Rattle.gsl_lower_stmt.proofs.switches.default_of.Given as goal

abbrev pub invariant-loop-k : goal.invariant-loop-k
invariant-loop-k l = default_of (map default_in (drop l.k l.arms)) (drop l.k l.labels) l.end ≡ default_of (map default_in l.arms) l.labels l.end
