use Rattle.std.proofs.Common.{◌≡◌, [], length}
use Rattle.gsl_valid_types.specs.TypeKeys.{first_bad}
use Rattle.gsl_valid_types.proofs.type_rule.first_badly_made.Given as goal

abbrev pub invariant-loop-place : goal.invariant-loop-place
invariant-loop-place l = first_bad l.definitions l.known l.each ≡ first_bad l.definitions [] l.fn.each

abbrev pub decreases-loop-place : goal.decreases-loop-place
decreases-loop-place l = length l.each
