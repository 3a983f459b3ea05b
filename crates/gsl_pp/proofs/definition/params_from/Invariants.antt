use Rattle.std.proofs.Common.{◌≡◌, length}
use Rattle.gsl_pp.specs.Definitions.{listed}
use Rattle.gsl_pp.proofs.definition.params_from.Given as goal

abbrev pub invariant-loop-param : goal.invariant-loop-param
invariant-loop-param l = listed l.params l.rest ≡ listed l.initial.params l.initial.rest

abbrev pub decreases-loop-param : goal.decreases-loop-param
decreases-loop-param l = length l.rest
