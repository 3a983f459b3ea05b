use Rattle.std.proofs.Common.{◌≡◌, ◌≤◌}
use Rattle.gsl_enact_values.specs.Search.{front, from_definition}
use Rattle.gsl_enact_values.proofs.search.latest.Given as goal

abbrev pub invariant-loop-at : goal.invariant-loop-at
invariant-loop-at l = (l.at ≤ l.count) × (from_definition (front l.definitions l.at) l.id ≡ from_definition (front l.definitions l.count) l.id)

abbrev pub decreases-loop-at : goal.decreases-loop-at
decreases-loop-at l = l.at
