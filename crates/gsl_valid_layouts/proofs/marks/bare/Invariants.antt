use Rattle.std.proofs.Common.{◌≡◌, ◌-◌, drop, length}
use Rattle.gsl_valid_layouts.specs.Marks.{marked_by, bare_pointee, bare}
use Rattle.gsl_valid_layouts.proofs.marks.bare.Given as goal

abbrev pub invariant-loop-at : goal.invariant-loop-at
invariant-loop-at l = marked_by (bare_pointee l.decorations) l.rows.items (drop l.at l.decorations.instrs) ≡ bare l.decorations

abbrev pub decreases-loop-at : goal.decreases-loop-at
decreases-loop-at l = length l.decorations.instrs - l.at
