use Rattle.std.proofs.Common.{◌≡◌, ◌++◌, length}
use Rattle.gsl_machine.specs.Functions.{parameter_of}
use Rattle.gsl_enact_functions.specs.Bodies.{gathered}
use Rattle.gsl_enact_functions.proofs.bodies.parameters_from.Given as goal

abbrev pub invariant-loop-op : goal.invariant-loop-op
invariant-loop-op l = l.found ++ gathered parameter_of l.rest ≡ gathered parameter_of l.body

abbrev pub decreases-loop-op : goal.decreases-loop-op
decreases-loop-op l = length l.rest
