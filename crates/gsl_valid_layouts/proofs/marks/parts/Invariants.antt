use Rattle.std.proofs.Common.{◌≡◌, ◌≤◌, drop, length}
use Rattle.gsl_valid_layouts.specs.Marks.{parts_marked}
use Rattle.gsl_valid_layouts.proofs.marks.parts.Given as goal

abbrev pub invariant-loop-at : goal.invariant-loop-at
invariant-loop-at l =
    (l.rows.items ≡ parts_marked l.definitions l.pointees l.at (drop l.at l.definitions.instrs)) × (l.at ≤ length l.definitions.instrs)

abbrev pub decreases-loop-at : goal.decreases-loop-at
decreases-loop-at l = l.at
