use Rattle.std.proofs.Common.{◌≡◌, ◌-◌, drop, length}
use Rattle.gsl_valid_layouts.specs.Marks.{marked_by, block_pointee, pointees}
use Rattle.gsl_valid_layouts.proofs.marks.pointees.Given as goal

abbrev pub invariant-loop-at : goal.invariant-loop-at
invariant-loop-at l = marked_by (block_pointee l.definitions) l.rows.items (drop l.at l.definitions.instrs) ≡ pointees l.definitions

abbrev pub decreases-loop-at : goal.decreases-loop-at
decreases-loop-at l = length l.definitions.instrs - l.at
