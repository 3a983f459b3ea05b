use Rattle.std.proofs.Common.{◌≡◌, length}
use Rattle.gsl_check_heads.specs.Heads.{same_types}
use Rattle.gsl_check_heads.proofs.matching.same_types.Given as goal

abbrev pub invariant-loop-a : goal.invariant-loop-a
invariant-loop-a l = same_types l.a l.b ≡ same_types l.initial.a l.initial.b

abbrev pub decreases-loop-a : goal.decreases-loop-a
decreases-loop-a l = length l.a
