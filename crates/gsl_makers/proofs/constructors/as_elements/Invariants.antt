use Rattle.std.proofs.Common.{◌≡◌, drop, ◌++◌, length}
use Rattle.gsl_makers.specs.Constructors.{as_elements}
use Rattle.gsl_makers.proofs.constructors.as_elements.Given as goal

abbrev pub invariant-each : goal.invariant-each
invariant-each l = l.given ++ as_elements l.fn.element l.left ≡ as_elements l.fn.element l.fn.args

abbrev pub decreases-each : goal.decreases-each
decreases-each l = length l.left
