use Rattle.std.proofs.Common.{◌≡◌, drop, map, ◌++◌}
use Rattle.gsl_values.specs.declared.value.Value.TheVariants.{Word}
use Rattle.gsl_check_expr.proofs.naming.words.Given as goal

abbrev pub invariant-loop-k : goal.invariant-loop-k
invariant-loop-k l = l.list ++ map Word (drop l.k l.fn.parts) ≡ map Word l.fn.parts
