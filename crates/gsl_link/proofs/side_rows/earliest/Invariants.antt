use Rattle.std.proofs.Common.{◌≡◌, ◌≤◌, drop, length}
use Rattle.gsl_link_units.specs.Firsts as firsts
use Rattle.gsl_link.proofs.side_rows.earliest.Given as goal

abbrev pub invariant-loop-at : goal.invariant-loop-at
invariant-loop-at l = (l.at ≤ length l.places) × (l.found ≡ firsts.earliest (drop l.at l.places))

abbrev pub decreases-loop-at : goal.decreases-loop-at
decreases-loop-at l = l.at
