use Rattle.std.proofs.Common.{length}
use Rattle.gsl_slow.proofs.shader.+statements.Given as goal

abbrev pub decreases-statements : goal.decreases-statements
decreases-statements l = length l.statements.now
