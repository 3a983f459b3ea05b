use Rattle.std.proofs.Common.{◌≡◌, length, map}
use Rattle.gsl_pp.specs.Definitions.{same_kinds}
use Rattle.gsl_pp.proofs.definition.same_lists.Given as goal

abbrev pub invariant-loop-a : goal.invariant-loop-a
invariant-loop-a l = same_kinds (map (λ k. k.value) l.a) (map (λ k. k.value) l.b) ≡ same_kinds (map (λ k. k.value) l.initial.a) (map (λ k. k.value) l.initial.b)

abbrev pub decreases-loop-a : goal.decreases-loop-a
decreases-loop-a l = length l.a
