use Rattle.std.proofs.Common.{◌≡◌, map, drop, ◌++◌}
use Rattle.gsl_values.specs.declared.value.Value.TheVariants.{Word}
use Rattle.gsl_enact_interfaces.proofs.built_ins.vector_of.Given as goal

abbrev pub invariant-loop-k : goal.invariant-loop-k
invariant-loop-k l = l.parts ++ map Word (drop l.k l.words) ≡ map Word l.words
