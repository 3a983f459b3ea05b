use Rattle.std.proofs.Common.{◌≡◌, drop}
use Rattle.gsl_lower_leaves.specs.Copies as spec
use Rattle.gsl_lower_leaves.proofs.copies.all_out.Given as goal

abbrev pub invariant-loop-k : goal.invariant-loop-k
invariant-loop-k l = spec.each (spec.copied_out l.block l.class l.parts l.variable) (drop l.k l.leaves) l.b ≡ spec.each (spec.copied_out l.block l.class l.parts l.variable) l.leaves l.initial.b
