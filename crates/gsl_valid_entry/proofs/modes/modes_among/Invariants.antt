use Rattle.std.proofs.Common.{◌≡◌, ◌++◌, map, length}
use Rattle.gsl_valid_entry.specs.Reading.{mode_seen, modes_from}
use Rattle.gsl_valid_entry.proofs.modes.modes_among.Given as goal

abbrev pub invariant-loop-op : goal.invariant-loop-op
invariant-loop-op l = map mode_seen l.modes.items ++ modes_from l.each ≡ modes_from l.fn.each

abbrev pub decreases-loop-op : goal.decreases-loop-op
decreases-loop-op l = length l.each
