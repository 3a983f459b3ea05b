use Rattle.std.proofs.Common.{length}
use Rattle.gsl_slow.proofs.machine.+value.Given as goal

abbrev pub decreases-value : goal.decreases-value
decreases-value l = length l.entries.now
