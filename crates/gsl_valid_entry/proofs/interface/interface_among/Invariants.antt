use Rattle.std.proofs.Common.{◌≡◌, ◌++◌, length}
use Rattle.gsl_valid_entry.specs.Reading.{interface_from}
use Rattle.gsl_valid_entry.proofs.interface.interface_among.Given as goal

abbrev pub invariant-loop-op : goal.invariant-loop-op
invariant-loop-op l = l.ids.items ++ interface_from l.each ≡ interface_from l.fn.each

abbrev pub decreases-loop-op : goal.decreases-loop-op
decreases-loop-op l = length l.each
