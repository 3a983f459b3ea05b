use Rattle.std.proofs.Common.{◌≡◌, map, drop, ◌++◌}
use Rattle.gsl_tree.specs.Values.{components_in}
use Rattle.gsl_compute.proofs.builtins.rows_of.Given as goal

abbrev pub invariant-loop-k : goal.invariant-loop-k
invariant-loop-k l = l.rows ++ map components_in (drop l.k l.args) ≡ map components_in l.args
