use Rattle.std.proofs.Common.{◌≡◌, drop, ◌++◌, length}
use Rattle.gsl_makers.specs.Constructors.{exprs_in}
use Rattle.gsl_makers.proofs.constructors.exprs_in.Given as goal

abbrev pub invariant-each : goal.invariant-each
invariant-each l = l.given ++ exprs_in l.left ≡ exprs_in l.fn.args

abbrev pub decreases-each : goal.decreases-each
decreases-each l = length l.left
