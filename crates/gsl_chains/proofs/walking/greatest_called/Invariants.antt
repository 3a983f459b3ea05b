use Rattle.std.proofs.Common.{◌≡◌, ◌-◌, max, length}
use Rattle.std.specs.Prelude.{slice_index}
use Rattle.gsl_positions.specs.Positions.{left}
use Rattle.gsl_chains.specs.Chains.{calls_of, greatest}
use Rattle.gsl_chains.proofs.walking.greatest_called.Given as goal

abbrev pub invariant-loop-at : goal.invariant-loop-at
invariant-loop-at l =
    (l.count ≡ length l.definitions.instrs)
    × (max l.most (greatest (slice_index l.rows) (calls_of (left l.definitions l.at))) ≡ greatest (slice_index l.rows) (calls_of (left l.definitions l.body)))

abbrev pub decreases-loop-at : goal.decreases-loop-at
decreases-loop-at l = l.count - l.at
