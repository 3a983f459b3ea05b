use Rattle.std.proofs.Common.{◌≡◌, length}
use Rattle.gsl_check_heads.specs.Heads.{same_directions}
use Rattle.gsl_check_heads.proofs.matching.same_directions.Given as goal

abbrev pub invariant-loop-a : goal.invariant-loop-a
invariant-loop-a l = same_directions l.a l.b ≡ same_directions l.initial.a l.initial.b

abbrev pub decreases-loop-a : goal.decreases-loop-a
decreases-loop-a l = length l.a
