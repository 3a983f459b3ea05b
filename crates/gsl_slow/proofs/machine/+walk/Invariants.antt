use Rattle.std.proofs.Common.{length}
use Rattle.gsl_slow.proofs.machine.+walk.Given as goal

abbrev pub decreases-walk : goal.decreases-walk
decreases-walk l = length l.indexes.now
