use Rattle.std.proofs.Common.{◌≡◌, ◌-◌, length}
use Rattle.gsl_machine.specs.Functions.{from_first_label}
use Rattle.gsl_positions.specs.Positions.{left}
use Rattle.gsl_positions.proofs.positions.first_label.Given as goal

abbrev pub invariant-loop-at : goal.invariant-loop-at
invariant-loop-at l = (l.count ≡ length l.of.instrs) × (from_first_label (left l.of l.body) ≡ from_first_label (left l.of l.at))

abbrev pub decreases-loop-at : goal.decreases-loop-at
decreases-loop-at l = l.count - l.at
