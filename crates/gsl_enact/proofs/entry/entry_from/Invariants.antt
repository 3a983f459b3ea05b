use Rattle.std.proofs.Common.{◌≡◌, length}
use Rattle.gsl_enact.specs.Entry.{entry_from}
use Rattle.gsl_enact.proofs.entry.entry_from.Given as goal

abbrev pub invariant-loop-op : goal.invariant-loop-op
invariant-loop-op l = entry_from l.rest ≡ entry_from l.code

abbrev pub decreases-loop-op : goal.decreases-loop-op
decreases-loop-op l = length l.rest
