use Rattle.std.proofs.Common.{◌≡◌, ◌++◌, drop}
use Rattle.gsl_lower_types.specs.Blocks as spec
use Rattle.gsl_lower_types.proofs.blocks.classes_of.Given as goal

abbrev pub invariant-loop-k : goal.invariant-loop-k
invariant-loop-k l = l.all ++ spec.classes_of l.target (drop l.k l.blocks) ≡ spec.classes_of l.target l.blocks
