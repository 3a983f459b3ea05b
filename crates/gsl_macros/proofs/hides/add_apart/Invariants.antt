use Rattle.std.proofs.Common.{◌≡◌, ◌++◌, length}
use Rattle.gsl_macros.specs.Hiding.{apart}
use Rattle.gsl_macros.proofs.hides.add_apart.Given as goal

abbrev pub invariant-loop-numbers : goal.invariant-loop-numbers
invariant-loop-numbers l = l.list ++ apart l.numbers l.others ≡ l.initial.list ++ apart l.initial.numbers l.others

abbrev pub decreases-loop-numbers : goal.decreases-loop-numbers
decreases-loop-numbers l = length l.numbers
