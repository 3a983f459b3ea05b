use Rattle.gsl_names.proofs.Latest.{Walks, depth_of}
use Rattle.gsl_names.proofs.names.walk.Given as goal

abbrev pub invariant-loop-at : goal.invariant-loop-at
invariant-loop-at l = Walks l.fn.all l.fn._name l.found l.at

abbrev pub decreases-loop-at : goal.decreases-loop-at
decreases-loop-at l = depth_of l.at
