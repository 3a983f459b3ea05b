use Rattle.std.proofs.Common.{◌≡◌, ◌+◌, ◌*◌, ◌++◌, drop, map}
use Rattle.gsl_machine.specs.Constants.{zeros_in}
use Rattle.gsl_enact_values.specs.Search.{front}
use Rattle.gsl_enact_values.proofs.constants.+zeros.Given as goal

abbrev pub decreases-zeros_in : goal.decreases-zeros_in
decreases-zeros_in l = 3 * l.count

abbrev pub decreases-zeros_as : goal.decreases-zeros_as
decreases-zeros_as l = 3 * l.count + 2

abbrev pub decreases-zeros_each : goal.decreases-zeros_each
decreases-zeros_each l = 3 * l.count + 1

abbrev pub invariant-zeros_each-loop-k : goal.invariant-zeros_each-loop-k
invariant-zeros_each-loop-k l = l.all ++ map (zeros_in l.definitions (front l.definitions l.count)) (drop l.k l.types) ≡ map (zeros_in l.definitions (front l.definitions l.count)) l.types
