use Rattle.std.proofs.Common.{length}
use Rattle.gsl_cmd.proofs.compiling.+first_long.Given as goal

abbrev pub decreases-first_long : goal.decreases-first_long
decreases-first_long l = length l.sources.now
