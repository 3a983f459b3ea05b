use Rattle.std.proofs.Common.{◌≡◌, ◌++◌, length, map}
use Rattle.gsl_kinds.specs.Seen.{variable_seen}
use Rattle.gsl_enact_functions.specs.Bodies.{gathered, variable_at}
use Rattle.gsl_enact_functions.proofs.bodies.variables_from.Given as goal

abbrev pub invariant-loop-op : goal.invariant-loop-op
invariant-loop-op l = map variable_seen l.found ++ gathered variable_at l.rest ≡ gathered variable_at l.body

abbrev pub decreases-loop-op : goal.decreases-loop-op
decreases-loop-op l = length l.rest
