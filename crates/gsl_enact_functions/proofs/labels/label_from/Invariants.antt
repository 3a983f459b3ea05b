use Rattle.std.proofs.Common.{◌≡◌, length}
use Rattle.gsl_enact_functions.specs.Bodies.{label_from}
use Rattle.gsl_enact_functions.proofs.labels.label_from.Given as goal

abbrev pub invariant-loop-op : goal.invariant-loop-op
invariant-loop-op l = (l.here ≡ l.rest) × (label_from l.rest l.id ≡ label_from l.code l.id)

abbrev pub decreases-loop-op : goal.decreases-loop-op
decreases-loop-op l = length l.rest
