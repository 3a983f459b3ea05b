use Rattle.std.proofs.Common.{◌≡◌, length}
use Rattle.gsl_pp.specs.Definitions.{same_names}
use Rattle.gsl_pp.proofs.definition.same_names.Given as goal

abbrev pub invariant-loop-a : goal.invariant-loop-a
invariant-loop-a l = same_names l.a l.b ≡ same_names l.initial.a l.initial.b

abbrev pub decreases-loop-a : goal.decreases-loop-a
decreases-loop-a l = length l.a
