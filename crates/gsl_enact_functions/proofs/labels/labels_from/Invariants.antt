use Rattle.std.proofs.Common.{◌≡◌, length}
use Rattle.gsl_enact_functions.specs.Bodies.{labels_from}
use Rattle.gsl_enact_functions.proofs.labels.labels_from.Given as goal

abbrev pub invariant-loop-op : goal.invariant-loop-op
invariant-loop-op l = (l.here ≡ l.rest) × (labels_from l.rest ≡ labels_from l.code)

abbrev pub decreases-loop-op : goal.decreases-loop-op
decreases-loop-op l = length l.rest
