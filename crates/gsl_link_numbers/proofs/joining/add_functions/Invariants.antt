use Rattle.std.proofs.Common.{◌≡◌, ◌++◌, map, take}
use Rattle.gsl_link_whole.specs.Renumbering.{renumbered_function}
use Rattle.gsl_link_numbers.proofs.joining.add_functions.Given as goal

abbrev pub invariant-loop-k : goal.invariant-loop-k
invariant-loop-k l = l.all ≡ l.initial.all ++ map (renumbered_function l.n) (take l.k l.functions)
