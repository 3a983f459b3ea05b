use Rattle.std.proofs.Common.{◌≡◌, ◌+◌, ◌*◌, ◌++◌, drop, map}
use Rattle.gsl_machine.specs.Constants.{constant_in}
use Rattle.gsl_enact_values.specs.Search.{front}
use Rattle.gsl_enact_values.proofs.constants.+constant.Given as goal

abbrev pub decreases-constant_in : goal.decreases-constant_in
decreases-constant_in l = 3 * l.count

abbrev pub decreases-fixed : goal.decreases-fixed
decreases-fixed l = 3 * l.count + 2

abbrev pub decreases-constant_each : goal.decreases-constant_each
decreases-constant_each l = 3 * l.count + 1

abbrev pub invariant-constant_each-loop-k : goal.invariant-constant_each-loop-k
invariant-constant_each-loop-k l = l.all ++ map (constant_in l.definitions (front l.definitions l.count)) (drop l.k l.ids) ≡ map (constant_in l.definitions (front l.definitions l.count)) l.ids
