use Rattle.std.proofs.Common.{◌≡◌, ◌-◌, ◌≤◌, false, length, take}
use Rattle.std.specs.List.{list_any}
use Rattle.gsl_valid_blocks.proofs.Fronts.{begins}
use Rattle.gsl_valid_blocks.proofs.variables.count_outside.Given as goal

abbrev pub invariant-loop-at : goal.invariant-loop-at
invariant-loop-at l = (l.at ≤ length l.of.instrs) × (list_any begins (take l.at l.of.instrs) ≡ false)

abbrev pub decreases-loop-at : goal.decreases-loop-at
decreases-loop-at l = length l.of.instrs - l.at
